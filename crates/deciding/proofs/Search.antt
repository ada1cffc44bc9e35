-- A search up the slots of an order that ends at the first match. For any matching test, so for every table alike.
-- Assumes nothing.
use Prim.Native.Nat.{ℕ, suc, ◌+◌, ◌<◌, ◌≤◌, min}
use mathlib.Core.Bool.{Bool, true, false, ◌&&◌}
use mathlib.Core.Option.{some}
use mathlib.Core.Path.{◌≡◌, refl, ap, sym, ◌∙◌}
use mathlib.Core.List.{List, []}
use native.Mathlib.Omega.{arith}
use lib.ListN.{length, take, get_or, drop_of_length-le, length-map, length-take, get_or-map}
use lib.Seq.{drop-cons, get_or-take}
use lib.Dec.{ltb, eqb}
use borrow.Author.Tests.{ne_eqb, lt-ltb, le-ltb}
use Rattle.rules.specs.Choose.{choose}
use Rattle.rules.specs.Frame.{Headers, matches0, matches10, matches20, matches30, matches50}
use Rattle.rules.specs.Rows.{entry_in}
use Rattle.rules.specs.Places.{live}
use Rattle.rules.specs.Tables.{live_flows}
use Rattle.rules.specs.Engine.{first_match, flow_at as engine_flow_at}
use Rattle.rules.specs.declared.FlowEntry.{FlowEntry}
use Rattle.rules.proofs.Cases.{by_eq}
use Rattle.rules.proofs.Arrays.{live_at}
use Rattle.deciding.specs.Way.{matches_in, flow_at, first_between, Decides}

-- a flow of another table
pub other_table : (f : FlowEntry) (table port : ℕ) (h : Headers) → (f.table ≡ table → ⊥) → matches_in table port h f ≡ false
unfolding matches_in matches0 matches10 matches20 matches30 matches50
other_table f table port h n =
    let t : (k : ℕ) → table ≡ k → eqb f.table k ≡ false = λ k e. ne_eqb f.table k (λ q. n (q ∙ sym e)) in
    by_eq table 50 (λ e p. simp (p, t 50 e))
    (λ d p. by_eq table 30 (λ e q. simp (p, q, t 30 e))
    (λ d q. by_eq table 20 (λ e r. simp (p, q, r, t 20 e))
    (λ d r. by_eq table 10 (λ e o. simp (p, q, r, o, t 10 e))
    (λ d o. by_eq table 0 (λ e x. simp (p, q, r, o, x, t 0 e)) (λ d x. simp (p, q, r, o, x))))))

-- ---- Live flows

-- they are as many as the code counts
live_count : (count n : ℕ) (rows : List (List ℕ)) → length rows ≡ 256 → n ≡ min count 256 → length (live_flows count rows) ≡ n
unfolding live
live_count count n rows l e = omega (arith, length-map (take count rows) entry_in, length-take count rows)

-- a live place has the flow of its row
live_flow : (count n p : ℕ) (rows : List (List ℕ)) → length (live_flows count rows) ≡ n → p < n → engine_flow_at (live_flows count rows) p ≡ flow_at rows p
unfolding live
live_flow count n p rows l h =
    get_or-map entry_in (take count rows) p []
    ∙ ap entry_in (live_at count p [] rows (omega (arith, length-map (take count rows) entry_in)))

-- ---- The search

-- It is among n live flows and ends at the latest at slot end
pub record Bounds (count : ℕ) (rows : List (List ℕ)) (order : List ℕ) (to n end : ℕ) : Type 0 where
  pub all : length rows ≡ 256
  pub slots : length order ≡ 256
  pub live : n ≡ min count 256
  pub ends : end ≡ min to n

-- It has come to slot i: what is first from there on is first of all
pub record Searched (count : ℕ) (rows : List (List ℕ)) (order : List ℕ) (from to : ℕ) (m : FlowEntry → Bool) (i : ℕ) : Type 0 where
  pub is : first_between count rows order from to m ≡ first_between count rows order i to m

pub search_starts : {count : ℕ} {rows : List (List ℕ)} {order : List ℕ} {from to : ℕ} {m : FlowEntry → Bool} → Searched count rows order from to m from
search_starts = record { is = refl }

module _ {count : ℕ} {rows : List (List ℕ)} {order : List ℕ} {from to n end i : ℕ} {m : FlowEntry → Bool} (b : Bounds count rows order to n end) (s : Searched count rows order from to m i) where
  -- so long is what is searched, with the slots before it
  segment_long : length (take to (take count order)) ≡ end
  segment_long = omega (arith, length-take to (take count order), length-take count order, b.slots, b.live, b.ends)

  -- no slot is left
  pub search_ends : end ≤ i → Decides rows (first_between count rows order from to m) false 0
  unfolding first_match
  search_ends h =
      record {
        inside = omega arith;
        is = sym (s.is ∙ rw (drop_of_length-le (take to (take count order)) {i = i} (omega (arith, segment_long))) refl);
      }

  module _ (h : i < end) where
    -- the flow in the next slot, or what comes behind it
    next : first_between count rows order from to m
        ≡ choose (ltb (get_or order i 0) (length (live_flows count rows)) && m (engine_flow_at (live_flows count rows) (get_or order i 0))) (some (engine_flow_at (live_flows count rows) (get_or order i 0))) (first_between count rows order (i + 1) to m)
    unfolding first_match
    next =
        let e : i + 1 ≡ suc i = omega arith in
        s.is
        ∙ rw (e, drop-cons (take to (take count order)) i 0 (omega (arith, segment_long)), get_or-take to (take count order) i 0 (omega (arith, b.ends)), get_or-take count order i 0 (omega (arith, b.ends, b.live))) refl

    -- its place is not live
    pub search_past : n ≤ get_or order i 0 → Searched count rows order from to m (i + 1)
    search_past g =
        let p = le-ltb (get_or order i 0) (length (live_flows count rows)) (omega (arith, live_count count n rows b.all b.live)) in
        record { is = next ∙ rw p refl }

    module _ (g : get_or order i 0 < n) where
      is_live : ltb (get_or order i 0) (length (live_flows count rows)) ≡ true
      is_live = lt-ltb (get_or order i 0) (length (live_flows count rows)) (omega (arith, live_count count n rows b.all b.live))

      its_flow : engine_flow_at (live_flows count rows) (get_or order i 0) ≡ flow_at rows (get_or order i 0)
      its_flow = live_flow count n (get_or order i 0) rows (live_count count n rows b.all b.live) g

      -- it does not match
      pub search_on : m (flow_at rows (get_or order i 0)) ≡ false → Searched count rows order from to m (i + 1)
      search_on p = record { is = next ∙ rw (is_live, its_flow, p) refl }

      -- it does, and ends the search
      pub search_finds : m (flow_at rows (get_or order i 0)) ≡ true → Decides rows (first_between count rows order from to m) true (get_or order i 0)
      search_finds p = record { inside = omega (arith, b.live); is = sym (next ∙ rw (is_live, its_flow, p) refl) }
