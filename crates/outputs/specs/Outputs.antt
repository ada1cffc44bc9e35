-- The members that a group stands for, and outputs written into a list.
use Rattle.std.specs.Prelude.{ℕ, ◌<◌, Bool, true, false, ◌≡◌, List, [], length, take, get_or, ltb}
use Rattle.rules.specs.Choose.{choose}
use Rattle.rules.specs.Limits.{list_numbers}
use Rattle.rules.specs.Keyed.{find}
use Rattle.rules.specs.Rows.{id_in}
use Rattle.rules.specs.Tables.{id_of, live_groups}
use Rattle.rules.specs.Frame.{Output, keep, member_outputs, found_outputs, list_after}
use Rattle.rules.specs.declared.Registers.{Registers}
use Rattle.rules.specs.declared.GroupEntry.{GroupEntry}
use Rattle.copies.specs.Copies.{rewrite_in}
use Rattle.outputs.specs.declared.Members.{Members}

-- The heads before a place have lower IDs
pub record Passed (heads : List (List ℕ)) (id at : ℕ) : Type 0 where
  pub is : (i : ℕ) → i < at → id_in (get_or heads i []) < id

-- A search up the live heads ends at a place: the ID stands there, or none of the heads has it
pub record Sought (count : ℕ) (heads : List (List ℕ)) (id at : ℕ) (held : Bool) : Type 0 where
  pub passed : Passed heads id at
  pub here : held ≡ true → (at < 128) × (at < length (take count heads)) × (id_in (get_or heads at []) ≡ id)
  pub gone : held ≡ false → at < length (take count heads) → id < id_in (get_or heads at [])

-- the outputs of the group with an ID, for a frame with a VLAN
abbrev pub named : ℕ → ℕ → List GroupEntry → List Output
named vlan id groups = found_outputs groups vlan (find id_of id groups)

-- the outputs of the groups of type 0 that a `Members` holds
unfoldable pub outputs_of : Members → List GroupEntry → List Output
outputs_of m groups = member_outputs groups m.vlan (rewrite_in m.rewrite) (take m.count m.lows)

-- those that it stands for, whatever groups there are
pub record Stands (m : Members) (os : List GroupEntry → List Output) : Type 0 where
  pub is : (groups : List GroupEntry) → outputs_of m groups ≡ os groups

-- outputs that are written only where the list has room for as many as there can be
unfoldable pub with_room : List ℕ → List Output → List Output
with_room list os = choose (ltb (length list) list_numbers) [] os

-- the outputs at the start of a list, and their number
pub record Lists (os : List Output) (r : ℕ) (before after : List ℕ) : Type 0 where
  pub count : r ≡ length os
  pub list : after ≡ list_after os before

-- the outputs of a `Members`: the heads alone tell them, whatever the members are
pub record Resolves (d : Registers) (ingress count : ℕ) (heads : List (List ℕ)) (m : Members) (r : ℕ) (before after : List ℕ) : Type 0 where
  pub is : (members : List (List ℕ)) → length heads ≡ length members → Lists (keep d ingress (outputs_of m (live_groups count heads members))) r before after
