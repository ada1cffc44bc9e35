-- A scan down the live flows that keeps the place of what it found. For any matching test, so for every table alike.
-- Assumes nothing.
use Prim.Native.Nat.{ℕ, zero, suc, ◌-◌, ◌<◌, ◌≤◌, min}
use mathlib.Core.Bool.{Bool, true, false}
use mathlib.Core.Option.{none, some}
use mathlib.Core.Path.{◌≡◌, refl, ap, sym, ◌∙◌}
use mathlib.Core.List.{List, [], map}
use native.Mathlib.Omega.{arith}
use lib.ListN.{length, take, drop, drop_of_length-le, length-map, length-take, get_or-map}
use lib.Seq.{drop-cons}
use Rattle.rules.specs.Choose.{choose}
use Rattle.rules.specs.Frame.{Headers, better, best, beats}
use Rattle.rules.specs.Rows.{entry_in}
use Rattle.rules.specs.Places.{live}
use Rattle.rules.specs.Tables.{live_flows}
use Rattle.rules.specs.declared.FlowEntry.{FlowEntry}
use Rattle.rules.proofs.Cases.{not_both}
use Rattle.rules.proofs.Arrays.{live_at}
use Rattle.rules.specs.Engine.{decides_best}
use Rattle.deciding.specs.Way.{matches_in, flow_at, Decides}
use Rattle.deciding.proofs.Search.{other_table}
use Rattle.plain.specs.Scan.{is_taken, Betters, Scanned, Skips, Lacks}

-- ---- The better of two, on plain values: e is the next flow, b what was found

module _ (m : FlowEntry → Bool) (e b : FlowEntry) where
  taken : (found : Bool) → m e ≡ true → is_taken found e b ≡ true → some e ≡ better m beats e (choose found (some b) none)
  unfolding is_taken
  taken true p q = simp (p, q)
  taken false p q = simp p

  kept : (found : Bool) → m e ≡ true → is_taken found e b ≡ false → choose found (some b) none ≡ better m beats e (choose found (some b) none)
  unfolding is_taken
  kept true p q = simp (p, q)
  kept false p q = not_both q

  passed : (found : Bool) → m e ≡ false → choose found (some b) none ≡ better m beats e (choose found (some b) none)
  passed true p = simp p
  passed false p = simp p

module _ {rows : List (List ℕ)} {m : FlowEntry → Bool} {i at : ℕ} {found : Bool} where
  pub better_passed : at < 256 → m (flow_at rows i) ≡ false → Betters rows m i found at found at
  better_passed h p = record { inside = h; is = passed m (flow_at rows i) (flow_at rows at) found p }

  module _ (p : m (flow_at rows i) ≡ true) {e b : FlowEntry} (u : e ≡ flow_at rows i) (v : b ≡ flow_at rows at) where
    pub better_taken : i < 256 → is_taken found e b ≡ true → Betters rows m i found at true i
    better_taken h q =
        record { inside = h; is = taken m (flow_at rows i) (flow_at rows at) found p (rw (u, v) at q) }

    pub better_kept : at < 256 → is_taken found e b ≡ false → Betters rows m i found at found at
    better_kept h q =
        record { inside = h; is = kept m (flow_at rows i) (flow_at rows at) found p (rw (u, v) at q) }

-- ---- The scan

-- what is best from the flow before i on
best_less : (m : FlowEntry → Bool) (count : ℕ) (rows : List (List ℕ)) (i : ℕ) → 0 < i → i ≤ length (live_flows count rows)
    → best m beats (drop (i - 1) (live_flows count rows)) ≡ better m beats (flow_at rows (i - 1)) (best m beats (drop i (live_flows count rows)))
unfolding best live
best_less m count rows zero h k = absurd (omega arith)
best_less m count rows (suc i) h k =
    let e : suc i - 1 ≡ i = omega arith in
    rw (e, drop-cons (map entry_in (take count rows)) i (entry_in []) (omega arith), get_or-map entry_in (take count rows) i [], live_at count i [] rows (omega (arith, length-map (take count rows) entry_in))) refl

module _ {count : ℕ} {rows : List (List ℕ)} {m : FlowEntry → Bool} where
  pub scan_starts : {i at : ℕ} {found : Bool} → length rows ≡ 256 → i ≡ min count 256 → (found ≡ false) × (at ≡ 0) → Scanned count rows m i found at
  unfolding best live
  scan_starts {i} l e z =
      let n : i ≡ length (map entry_in (take count rows)) = omega (arith, length-map (take count rows) entry_in, length-take count rows) in
      record { within = omega arith; few = omega arith; inside = omega (arith, z.1); is = rw (z.0, drop_of_length-le (map entry_in (take count rows)) {i = i} (omega arith)) }

  pub scan_on : {i at at' : ℕ} {found found' : Bool} → Scanned count rows m i found at → 0 < i
      → Betters rows m (i - 1) found at found' at' → Scanned count rows m (i - 1) found' at'
  scan_on {i} s h b =
      record {
        within = omega (arith, s.within);
        few = omega (arith, s.few);
        inside = b.inside;
        is = b.is ∙ ap (better m beats (flow_at rows (i - 1))) s.is ∙ sym (best_less m count rows i h s.within);
      }

  -- at the end it has found what decides
  pub scan_ends : (table : ℕ) {i at : ℕ} {found : Bool} → Scanned count rows m i found at → i ≡ 0
      → Decides rows (decides_best (live_flows count rows) table m) found at
  unfolding decides_best
  scan_ends table s z = record { inside = s.inside; is = let y = s.is in rw z at y }

-- ---- Flows that are skipped

module _ {rows : List (List ℕ)} {m : FlowEntry → Bool} {from : ℕ} where
  pub skips_none : Skips rows m from from
  skips_none = record { down = omega arith; is = λ count found at s. s }

  pub skips_more : {i : ℕ} → Skips rows m from i → 0 < i → m (flow_at rows (i - 1)) ≡ false
      → Skips rows m from (i - 1)
  skips_more k h p =
      record {
        down = omega (arith, k.down);
        is = λ count found at s. let t = k.is count found at s in scan_on t h (better_passed t.inside p);
      }

-- ---- Flows of table 20

module _ {count : ℕ} {rows : List (List ℕ)} where
  pub lacks_starts : {i : ℕ} → length rows ≡ 256 → i ≡ min count 256 → Lacks count rows i false
  unfolding best live
  lacks_starts {i} l e =
      let n : i ≡ length (map entry_in (take count rows)) = omega (arith, length-map (take count rows) entry_in, length-take count rows) in
      record { is = λ q port h. rw (drop_of_length-le (map entry_in (take count rows)) {i = i} (omega arith)) refl }

  -- one flow more: of table 20, which is seen, or of another
  pub lacks_on : {i : ℕ} {seen seen' : Bool} → Lacks count rows i seen → 0 < i → i ≤ length (live_flows count rows)
      → (seen' ≡ false → (seen ≡ false) × ((flow_at rows (i - 1)).table ≡ 20 → ⊥)) → Lacks count rows (i - 1) seen'
  lacks_on {i} s h k t =
      record {
        is = λ q port g.
            let a = t q in
            best_less (matches_in 20 port g) count rows i h k
            ∙ rw (s.is a.0 port g, other_table (flow_at rows (i - 1)) 20 port g a.1) refl;
      }

-- none of table 20 was seen
pub missed : {count : ℕ} (rows : List (List ℕ)) {seen : Bool} → Lacks count rows 0 seen → seen ≡ false → (port : ℕ) (h : Headers)
    → Decides rows (decides_best (live_flows count rows) 20 (matches_in 20 port h)) false 0
unfolding decides_best
missed rows s q port h = record { inside = omega arith; is = sym (s.is q port h) }
