-- What the scan of all flows finds in a table.
use Rattle.std.specs.Prelude.{ℕ, ◌<◌, ◌≤◌, Bool, true, false, ◌≡◌, List, length, drop}
use Rattle.std.proofs.Math.Option.{none}
use Rattle.rules.specs.Choose.{choose}
use Rattle.rules.specs.Frame.{Headers, better, best, beats}
use Rattle.rules.specs.Tables.{live_flows}
use Rattle.rules.specs.declared.FlowEntry.{FlowEntry}
use Rattle.deciding.specs.Way.{flow_at, hit_in, matches_in}

-- whether a match e replaces what was found so far
unfoldable pub is_taken : Bool → FlowEntry → FlowEntry → Bool
is_taken found e b = choose found (beats e b) true

-- the better of the flow in place i and what was found so far, by any test
pub record Betters (rows : List (List ℕ)) (matches : FlowEntry → Bool) (i : ℕ) (found : Bool) (at : ℕ) (found' : Bool) (at' : ℕ) : Type 0 where
  pub inside : at' < 256
  pub is : hit_in rows found' at' ≡ better matches beats (flow_at rows i) (hit_in rows found at)

-- The scan has come down to i, and has found what stands in a place, or nothing
pub record Scanned (count : ℕ) (rows : List (List ℕ)) (matches : FlowEntry → Bool) (i : ℕ) (found : Bool) (at : ℕ) : Type 0 where
  pub within : i ≤ length (live_flows count rows)
  pub few : i ≤ 256
  pub inside : at < 256
  pub is : hit_in rows found at ≡ best matches beats (drop i (live_flows count rows))

-- from one place down to another nothing more is found
pub record Skips (rows : List (List ℕ)) (matches : FlowEntry → Bool) (from to : ℕ) : Type 0 where
  pub down : to ≤ from
  pub is : (count : ℕ) (found : Bool) (at : ℕ) → Scanned count rows matches from found at → Scanned count rows matches to found at

-- the flows from place i on have none of table 20, unless one was seen
pub record Lacks (count : ℕ) (rows : List (List ℕ)) (i : ℕ) (seen : Bool) : Type 0 where
  pub is : seen ≡ false → (port : ℕ) (h : Headers) → best (matches_in 20 port h) beats (drop i (live_flows count rows)) ≡ none
