-- The plain store over rows: where a cookie stands, and what a command leaves, by the rules' `unordered`.
use Rattle.std.specs.Prelude.{ℕ, suc, ◌≤◌, Bool, ◌≡◌, List, [], ◌∷◌, eqb, length}
use Rattle.rules.specs.Choose.{choose}
use Rattle.rules.specs.Limits.{max_flows}
use Rattle.rules.specs.Rows.{entry_in}
use Rattle.rules.specs.Places.{Places, live}
use Rattle.rules.specs.Tables.{live_flows, add_status, held_status}
use Rattle.rules.specs.Engine.{stands_in, unordered}
use Rattle.rules.specs.declared.FlowEntry.{FlowEntry}
use Rattle.rules.specs.declared.Status.{Status}
use Rattle.tables.specs.Commands.{Changed}

-- the place of the first flow with a cookie, or behind the last
unfoldable pub place_of : ℕ → List FlowEntry → ℕ
place_of k [] = 0
place_of k (e ∷ es) = choose (eqb e.cookie k) 0 (suc (place_of k es))

-- where the cookie k stands among the n live flows, and whether it does
pub record Stands (k n count : ℕ) (rows : List (List ℕ)) (at : ℕ) (held : Bool) : Type 0 where
  pub place_is : at ≡ place_of k (live_flows count rows)
  pub stands_is : stands_in k (live_flows count rows) ≡ held
  pub live : n ≡ length (live_flows count rows)
  pub inside : n ≤ max_flows
  pub within : at ≤ n

-- the rows and their count, before a command
module _ (t : Places (List ℕ)) where
  abbrev pub Added : FlowEntry → Status → Places (List ℕ) → Type 0
  Added e =
      Changed (live entry_in) t (add_status unordered.there max_flows e.cookie (live entry_in t)) (unordered.added e (live entry_in t))

  abbrev pub Modded : FlowEntry → Status → Places (List ℕ) → Type 0
  Modded e = Changed (live entry_in) t (held_status unordered.there e.cookie (live entry_in t)) (unordered.changed e (live entry_in t))

  abbrev pub Deleted : ℕ → Status → Places (List ℕ) → Type 0
  Deleted k = Changed (live entry_in) t (held_status unordered.there k (live entry_in t)) (unordered.deleted k (live entry_in t))
