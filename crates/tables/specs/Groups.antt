-- The group table: two arrays side by side, and how many of their places are live.
use Rattle.std.specs.Prelude.{ℕ, List}
use Rattle.rules.specs.Tables.{live_groups}
use Rattle.rules.specs.declared.GroupEntry.{GroupEntry}

pub record GroupPlaces : Type 0 where
  pub count : ℕ
  pub heads : List (List ℕ)
  pub members : List (List ℕ)

abbrev pub group_places : ℕ → List (List ℕ) → List (List ℕ) → GroupPlaces
group_places count heads members = record { count = count; heads = heads; members = members }

unfoldable pub groups_in : GroupPlaces → List GroupEntry
groups_in t = live_groups t.count t.heads t.members
