-- The first match of a table's part of an order is the best match of all flows: of flows in deciding order the first match decides, and the flows
-- before and behind the part are of other tables.
-- Assumes nothing.
use Prim.Native.Nat.{ℕ, zero, suc, ◌<◌, ◌≤◌}
use mathlib.Core.Bool.{Bool, true, false}
use mathlib.Core.Option.{Option, none, some}
use mathlib.Core.Logic.{◌⊎◌, inl, inr, ⊎_elim}
use mathlib.Core.Path.{◌≡◌, refl, ap, sym, ◌∙◌}
use mathlib.Core.List.Memᴰ
use mathlib.Core.List.{List, [], ◌∷◌, map, Memᴰ}
use native.Mathlib.Omega.{arith}
use lib.ListN.{length, take, drop, get_or, length-map}
use borrow.Author.Tests.{lt-ltb, le-ltb}
use Rattle.rules.specs.Choose.{choose}
use Rattle.rules.specs.Rows.{entry_in}
use Rattle.rules.specs.Keyed.{Rising}
use Rattle.rules.specs.Tables.{cookie_of}
use Rattle.rules.specs.Frame.{better, best, beats}
use Rattle.rules.specs.Engine.{Order, flow_at, begins_at, ends_at, first_match, decides_first}
use Rattle.rules.specs.declared.FlowEntry.{FlowEntry}
use Rattle.rules.proofs.Cases.{by_test, by_lt}
use Rattle.rules.proofs.Deciding.{Top, best_is_top, beats_irrefl, beats_trans, deciding_any_order}
use Rattle.engines.specs.Kept.{Leads, Deciding, below, firsts_of, listed, Kept}
use Rattle.engines.proofs.Sorted.{mem_at, precedes_rank, precedes_le, leads_mem}

-- a table's number
abbrev pub IsTable : ℕ → Type 0
IsTable table = (table ≡ 0) ⊎ ((table ≡ 10) ⊎ ((table ≡ 20) ⊎ ((table ≡ 30) ⊎ (table ≡ 50))))

-- ---- The first match of a list

module _ (m : FlowEntry → Bool) where
  abbrev first : List FlowEntry → Option FlowEntry
  first [] = none
  first (e ∷ es) = choose (m e) (some e) (first es)

  first_none : (l : List FlowEntry) → ((e : FlowEntry) → Memᴰ e l → m e ≡ false) → first l ≡ none
  first_none [] h = refl
  first_none (e ∷ es) h = rw (h e (Memᴰ.head refl)) (first_none es (λ x n. h x (Memᴰ.tail n)))

  -- where all places are live, the search is over their flows
  match_first : (flows : List FlowEntry) (ps : List ℕ) → ((p : ℕ) → Memᴰ p ps → p < length flows)
      → first_match flows m ps ≡ first (map (flow_at flows) ps)
  unfolding first_match
  match_first flows [] h = refl
  match_first flows (p ∷ ps) h =
      simp (lt-ltb p (length flows) (h p (Memᴰ.head refl)), match_first flows ps (λ q n. h q (Memᴰ.tail n)))

  -- ---- of one table

  module _ (t : ℕ) (only : (e : FlowEntry) → m e ≡ true → e.table ≡ t) where
    no_match : (e : FlowEntry) → (e.table ≡ t → ⊥) → m e ≡ false
    no_match e n = by_test (m e) (λ p. absurd (n (only e p))) (λ p. p)

    -- a match in front decides
    better_first : (e : FlowEntry) (l : List FlowEntry) (r : Option FlowEntry) → Top m beats l r → Leads e l → m e ≡ true
        → better m beats e r ≡ some e
    better_first e l none u h p = simp p
    better_first e l (some b) u h p =
        let q = sym (precedes_rank e b (only e p ∙ sym (only b u.1))) ∙ leads_mem e b l h u.0 in
        simp (p, q)

    better_not : (e : FlowEntry) (r : Option FlowEntry) → m e ≡ false → better m beats e r ≡ r
    better_not e none p = simp p
    better_not e (some b) p = simp p

    best_first : (l : List FlowEntry) → Deciding l → best m beats l ≡ first l
    unfolding best
    best_first [] d = refl
    best_first (e ∷ es) d =
        by_test (m e)
        (λ p. better_first e es (best m beats es) (best_is_top m beats beats_irrefl beats_trans es) d.0 p ∙ rw p)
        (λ p. better_not e (best m beats es) p ∙ rw p (best_first es d.1))

    -- ---- its part of the list

    -- behind a flow of table k none is of a table below
    none_below : (k : ℕ) (e : FlowEntry) (l : List FlowEntry) → k ≤ e.table → Leads e l → below k l ≡ 0
    unfolding below
    none_below k e [] h d = refl
    none_below k e (g ∷ gs) h d =
        let a = precedes_le e g d.0 in simp (le-ltb g.table k (omega arith)) (none_below k e gs h d.1)

    part : (k : ℕ) (l : List FlowEntry) → t < k → Deciding l → first (drop (below t l) (take (below k l) l)) ≡ first l
    unfolding below
    part k [] h d = refl
    part k (e ∷ es) h d =
        by_lt e.table t
        (λ a p. simp (p, lt-ltb e.table k (omega arith), no_match e (omega arith)) (part k es h d.1))
        (λ a p. by_lt e.table k
        (λ b q. let z = part k es h d.1 in
        simp (p, q, none_below t e es a d.0)
        (ap {B = Option FlowEntry} (λ r. choose (m e) (some e) r) (simp (none_below t e es a d.0) at z)))
        (λ b q. simp (p, q, none_below t e es a d.0, none_below k e es b d.0)
        (sym (first_none (e ∷ es) (λ x n. ⊎_elim
        (λ w. rw w (no_match e (omega arith)))
        (λ w. let c = precedes_le e x (leads_mem e x es d.0 w) in no_match x (omega arith))
        (Memᴰ.cases_cons n))))))

    -- the last table's goes to the end
    last_part : (l : List FlowEntry) → Deciding l → first (drop (below t l) l) ≡ first l
    unfolding below
    last_part [] d = refl
    last_part (e ∷ es) d =
        by_lt e.table t
        (λ a p. simp (p, no_match e (omega arith)) (last_part es d.1))
        (λ a p. simp (p, none_below t e es a d.0))

-- ---- Places and flows

module _ {A B : Type 0} (f : A → B) where
  map_take : (n : ℕ) (l : List A) → map f (take n l) ≡ take n (map f l)
  map_take zero l = refl
  map_take (suc n) [] = refl
  map_take (suc n) (x ∷ l) = ap {B = List B} (λ r. f x ∷ r) (map_take n l)

  map_drop : (n : ℕ) (l : List A) → map f (drop n l) ≡ drop n (map f l)
  map_drop zero l = refl
  map_drop (suc n) [] = refl
  map_drop (suc n) (x ∷ l) = map_drop n l

module _ {A : Type 0} where
  take_all : (l : List A) → take (length l) l ≡ l
  take_all [] = refl
  take_all (x ∷ l) = ap {B = List A} (λ r. x ∷ r) (take_all l)

  mem_take : (n : ℕ) (x : A) (l : List A) → Memᴰ x (take n l) → Memᴰ x l
  mem_take zero x l m = absurd (Memᴰ.not-nil m)
  mem_take (suc n) x [] m = m
  mem_take (suc n) x (y ∷ l) m = ⊎_elim (λ w. Memᴰ.head w) (λ w. Memᴰ.tail (mem_take n x l w)) (Memᴰ.cases_cons m)

  mem_drop : (n : ℕ) (x : A) (l : List A) → Memᴰ x (drop n l) → Memᴰ x l
  mem_drop zero x l m = m
  mem_drop (suc n) x [] m = m
  mem_drop (suc n) x (y ∷ l) m = Memᴰ.tail (mem_drop n x l m)

  -- where an entry stands
  mem_place : (d x : A) (l : List A) → Memᴰ x l → (p : ℕ) × (p < length l) × (get_or l p d ≡ x)
  mem_place d x [] m = absurd (Memᴰ.not-nil m)
  mem_place d x (y ∷ l) m =
      ⊎_elim
      (λ w. (0, omega arith, sym w))
      (λ w. let r = mem_place d x l w in (suc r.0, omega (arith, r.1), r.2))
      (Memᴰ.cases_cons m)

-- ---- The flows of a table in an order

none_lower : (l : List FlowEntry) → below 0 l ≡ 0
unfolding below
none_lower [] = refl
none_lower (e ∷ es) = simp (le-ltb e.table 0 (omega arith)) (none_lower es)

segment_first : (flows : List FlowEntry) (o : Order) (table : ℕ) (m : FlowEntry → Bool) → Kept flows o → IsTable table
    → ((e : FlowEntry) → m e ≡ true → e.table ≡ table)
    → first m (drop (begins_at o table) (take (ends_at o table) (listed flows o))) ≡ first m (listed flows o)
unfolding begins_at ends_at firsts_of
segment_first flows o table m k (inl t) only =
    rw (t, k.firsts_are) (rw (none_lower (listed flows o)) at (part m 0 (rw t at only) 10 (listed flows o) (omega arith) k.deciding))
segment_first flows o table m k (inr (inl t)) only =
    rw (t, k.firsts_are) (part m 10 (rw t at only) 20 (listed flows o) (omega arith) k.deciding)
segment_first flows o table m k (inr (inr (inl t))) only =
    rw (t, k.firsts_are) (part m 20 (rw t at only) 30 (listed flows o) (omega arith) k.deciding)
segment_first flows o table m k (inr (inr (inr (inl t)))) only =
    rw (t, k.firsts_are) (part m 30 (rw t at only) 50 (listed flows o) (omega arith) k.deciding)
segment_first flows o table m k (inr (inr (inr (inr t)))) only =
    rw (t, k.firsts_are, sym (length-map o.places (flow_at flows)), take_all (listed flows o))
    (last_part m 50 (rw t at only) (listed flows o) k.deciding)

-- THE LAW: what the search of an order finds is what a full scan finds
pub kept_decides : (flows : List FlowEntry) (o : Order) (table : ℕ) (m : FlowEntry → Bool) → Rising cookie_of flows → Kept flows o
    → IsTable table → ((e : FlowEntry) → m e ≡ true → e.table ≡ table) → decides_first flows o table m ≡ best m beats flows
unfolding decides_first
kept_decides flows o table m r k i only =
    let b = begins_at o table in
    let n = ends_at o table in
    match_first m flows (drop b (take n o.places)) (λ p u. k.live p (mem_take n p o.places (mem_drop b p (take n o.places) u)))
    ∙ ap (first m) (map_drop (flow_at flows) b (take n o.places) ∙ ap (drop b) (map_take (flow_at flows) n o.places))
    ∙ segment_first flows o table m k i only
    ∙ sym (best_first m table only (listed flows o) k.deciding)
    ∙ sym (deciding_any_order m flows (listed flows o) r
    (λ f u. let q = mem_place (entry_in []) f flows u in Memᴰ.cast (sym q.2) (Memᴰ.map (flow_at flows) (k.each q.0 q.1)))
    (λ f u. let q = Memᴰ.of_map (flow_at flows) o.places u in Memᴰ.cast (sym q.2) (mem_at flows q.0 (entry_in []) (k.live q.0 q.1))))
