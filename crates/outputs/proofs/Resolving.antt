-- The outputs of members, one after the other: what is left after k members. It is the same whatever members the groups have.
-- Assumes nothing.
use Prim.Native.Nat.{ℕ, ◌+◌, ◌*◌, ◌<◌, ◌≤◌}
use mathlib.Core.Bool.{Bool, true, false}
use mathlib.Core.Option.{none, some}
use mathlib.Core.Path.{◌≡◌, refl}
use mathlib.Core.List.{List, [], ◌∷◌}
use native.Mathlib.Omega.{arith}
use native.Mathlib.Numerals.{add-one}
use lib.ListN.{length, take, drop, get_or, drop_of_length-le}
use lib.Seq.{drop-cons}
use Rattle.rules.specs.Choose.{choose}
use Rattle.rules.specs.Limits.{output_numbers}
use Rattle.rules.specs.GroupId.{group_low, member_id}
use Rattle.rules.specs.Rows.{flag_in, group_in}
use Rattle.rules.specs.Tables.{live_groups}
use Rattle.rules.specs.Frame.{Rewrite, Output, output_of, output_if, member_outputs, keep}
use Rattle.rules.specs.declared.Registers.{Registers}
use Rattle.rules.specs.declared.GroupEntry.{GroupEntry}
use Rattle.rules.proofs.Arrays.{live_at}
use Rattle.copies.specs.Copies.{rewrite_in, output_to, Sends}
use Rattle.outputs.specs.declared.Members.{Members}
use Rattle.outputs.specs.Outputs.{Sought, outputs_of, Resolves}
use Rattle.outputs.proofs.Search.{found}
use Rattle.outputs.proofs.Writing.{Writing, writing_starts, writing_sent, writing_ends}

-- the output of a group that was looked up by its ID
output_is : (how : Rewrite) (id port : ℕ) (pop : Bool) (g : GroupEntry) → g.id ≡ id → port ≡ group_low id → pop ≡ g.pop_vlan
    → output_to how port pop ≡ output_of how g
unfolding output_of
output_is how id port pop g e p q = rw (p, q, ← e)

module _ (d : Registers) (ingress count : ℕ) (heads : List (List ℕ)) (m : Members) (l₀ : List ℕ) where
  -- the outputs that are left after k members
  abbrev left : List (List ℕ) → ℕ → List Output
  left members k = member_outputs (live_groups count heads members) m.vlan (rewrite_in m.rewrite) (drop k (take m.count m.lows))

  -- k members are done: n outputs are written, and the list is l
  pub record Resolved (k n : ℕ) (l : List ℕ) : Type 0 where
    pub few : n ≤ k
    pub sized : length l ≡ length l₀
    pub is : (members : List (List ℕ)) → length heads ≡ length members → Writing (keep d ingress (left members 0)) l₀ (keep d ingress (left members k)) n l

  pub resolved_none : Resolved 0 0 l₀
  resolved_none = record { few = omega arith; sized = refl; is = λ ms e. writing_starts (keep d ingress (left ms 0)) l₀ }

  pub resolved_all : {k n : ℕ} {l : List ℕ} → Resolved k n l → length (take m.count m.lows) ≤ k → Resolves d ingress count heads m n l₀ l
  unfolding member_outputs keep outputs_of
  resolved_all {k} r h = record { is = λ ms e. writing_ends (rw (drop_of_length-le (take m.count m.lows) {i = k} h) at (r.is ms e)) }

  module _ {k n id at : ℕ} {l : List ℕ} {held : Bool} (r : Resolved k n l) (h : k < length (take m.count m.lows))
      (i : id ≡ member_id m.vlan (get_or m.lows k 0)) (s : Sought count heads id at held) where
    left_more : (members : List (List ℕ)) → length heads ≡ length members
        → left members k ≡ output_if (rewrite_in m.rewrite) (choose held (some (group_in (get_or heads at [], get_or members at []))) none) (left members (k + 1))
    unfolding member_outputs
    left_more ms e = rw (← found s ms e, i, add-one, drop-cons (take m.count m.lows) k 0 h, live_at m.count k 0 m.lows h) refl

    -- a member that does not exist is skipped
    pub resolved_gone : held ≡ false → Resolved (k + 1) n l
    unfolding output_if
    resolved_gone q =
        record {
          few = omega (arith, r.few);
          sized = r.sized;
          is = λ ms e. let z : left ms k ≡ left ms (k + 1) = rw q at (left_more ms e) in rw z at (r.is ms e);
        }

    -- one that does is sent, unless it is left out
    module _ {port n' : ℕ} {pop : Bool} {l' : List ℕ} (q : held ≡ true) (u : port ≡ group_low id) (v : pop ≡ flag_in (get_or (get_or heads at []) 1 0))
        (b : output_numbers * n + output_numbers ≤ length l)
        (w : Sends d ingress (output_to (rewrite_in m.rewrite) port pop) n n' l l') where
      sent : (members : List (List ℕ)) → length heads ≡ length members
          → Writing (keep d ingress (left members 0)) l₀ (keep d ingress (left members (k + 1))) n' l' × (n' ≤ n + 1)
      unfolding output_if group_in
      sent ms e =
          let o = output_is (rewrite_in m.rewrite) id port pop (group_in (get_or heads at [], get_or ms at [])) (s.here q).2 u v in
          let z : left ms k ≡ output_to (rewrite_in m.rewrite) port pop ∷ left ms (k + 1) = rw (q, ← o) at (left_more ms e) in
          writing_sent (left ms (k + 1)) (rw z at (r.is ms e)) b w

      pub resolved_sent : Resolved (k + 1) n' l'
      resolved_sent =
          let a = sent heads refl in
          record { few = omega (arith, r.few, a.1); sized = a.0.sized; is = λ ms e. (sent ms e).0 }
