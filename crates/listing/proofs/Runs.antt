-- A run over a whole table, step by step: what is listed so far is the run over the entries that it has had. For any table.
-- Assumes nothing.
use Prim.Native.Nat.{ℕ, suc, ◌+◌, ◌-◌, ◌<◌, ◌≤◌}
use mathlib.Core.Bool.{Bool, true, false, ◌&&◌}
use mathlib.Core.Path.{◌≡◌, refl, ap, ◌∙◌}
use mathlib.Core.List.{List, [], ◌∷◌, ◌++◌, map, append-nil}
use native.Mathlib.Omega.{arith}
use lib.ListN.{length, take, drop, length-drop}
use lib.Seq.{take-add, take_all}
use borrow.Author.Tests.{le-ltb}
use Rattle.rules.specs.Choose.{choose}
use Rattle.rules.specs.Keyed.{position, holds, find, Rising}
use Rattle.rules.specs.Undo.{picks, picked}
use Rattle.rules.proofs.Cases.{by_test, by_lt, and_right}
use Rattle.picking.specs.Next.{next_at, still}
use Rattle.picking.proofs.Found.{holds_below}
use Rattle.listing.specs.Listing.{Small, Lists, Steps, large}
use Rattle.listing.specs.declared.Listed.{Listed}
use Rattle.listing.specs.declared.Step.{Step}
use Rattle.listing.proofs.Lists.{lists_none, lists_nothing, lists_on, lists_within}

-- ---- What a run makes of two parts of a table

module _ {A : Type 0} (key : A → ℕ) (same : A → A → Bool) (payload : A → List ℕ) (there : Bool) (other : List A) where
  -- the payloads of the entries that are picked
  abbrev pub run : List A → List (List ℕ)
  run l = map payload (picked key same there other l)

  pub run_append : (l m : List A) → run (l ++ m) ≡ run l ++ run m
  unfolding picked
  run_append [] m = refl
  run_append (e ∷ l) m =
      by_test (picks key same there (find key (key e) other) e)
      (λ p. simp p (ap {B = List (List ℕ)} (λ t. payload e ∷ t) (run_append l m)))
      (λ p. simp p (run_append l m))

  -- one entry, picked or not
  pub run_picked : (e : A) → picks key same there (find key (key e) other) e ≡ true → run (e ∷ []) ≡ payload e ∷ []
  unfolding picked
  run_picked e p = simp p

  pub run_passed : (e : A) → picks key same there (find key (key e) other) e ≡ false → run (e ∷ []) ≡ []
  unfolding picked
  run_passed e p = simp p

-- ---- Where a run stands

module _ {A : Type 0} (key : A → ℕ) where
  position_zero : (l : List A) → position key 0 l ≡ 0
  unfolding position
  position_zero [] = refl
  position_zero (e ∷ es) = simp (le-ltb (key e) 0 (omega arith))

  position_within : (k : ℕ) (l : List A) → position key k l ≤ length l
  unfolding position
  position_within k [] = omega arith
  position_within k (e ∷ es) = by_lt (key e) k (λ h p. simp p (omega (arith, position_within k es))) (λ h p. simp p (omega arith))

  next_within : (started : Bool) (k : ℕ) (l : List A) → next_at key started k l ≤ length l
  unfolding next_at
  next_within started k l =
      by_test (started && holds key k l)
      (λ p. simp p (omega (arith, holds_below key k l (and_right started (holds key k l) p))))
      (λ p. simp p (position_within k l))

  -- as many entries as are left come after as many as it has had
  next_after : (k a : ℕ) (l : List A) → a < length l → still key true k l ≡ drop 1 (drop a l) → next_at key true k l ≡ a + 1
  unfolding still
  next_after k a l h e =
      omega (arith, next_within true k l, ap length e, length-drop (next_at key true k l) l, length-drop 1 (drop a l), length-drop a l)

  -- how many entries it has had: all, when there was no more
  unfoldable pub had : Bool → ℕ → List A → Bool → ℕ
  had started k l more = choose more (next_at key started k l) (length l)

  -- how many turns are left at most
  unfoldable pub left : Bool → ℕ → List A → Bool → ℕ
  left started k l more = choose more (suc (length l - next_at key started k l)) 0

  module _ (run : List A → List (List ℕ)) where
    pub record Running (slots : ℕ) (l : List A) (so_far : Listed) (before : List ℕ) (listed : Listed) (started : Bool) (k : ℕ) (more : Bool) (now : List ℕ) : Type 0 where
      pub lists : Lists listed so_far now (run (take (had started k l more) l)) (had started k l more) before
      pub few : length l ≤ slots

    module _ (nil : run [] ≡ []) {slots : ℕ} {l : List A} {so_far : Listed} {before : List ℕ} where
      pub run_starts : length l ≤ slots → Running slots l so_far before so_far false 0 true before
      unfolding had next_at
      run_starts f = record { lists = rw (position_zero l, nil) (lists_none so_far 0 before); few = f }

      module _ (append : (a b : List A) → run (a ++ b) ≡ run a ++ run b) {listed : Listed} {started : Bool} {k : ℕ} {more : Bool} {now after : List ℕ} {t : Step} (r : Running slots l so_far before listed started k more now) (s : Steps key run l t listed started k after now) (going : more ≡ true) where
        -- an entry more
        turn_on : Rising key l → t.more ≡ true → Running slots l so_far before t.listed true t.key t.more after
        unfolding had still
        turn_on u m =
            let a = next_at key started k l in
            let h : next_at key true t.key l ≡ a + 1 = next_after t.key a l (s.goes_on m) (s.rest m u) in
            let whole : run (take (a + 1) l) ≡ run (take a l) ++ run (take 1 (drop a l)) = ap run (take-add a 1 l) ∙ append (take a l) (take 1 (drop a l)) in
            let before_it : Lists listed so_far now (run (take a l)) a before = simp going at r.lists in
            record { lists = simp m (rw (h, whole) (lists_on before_it s.lists)); few = r.few }

        -- there was no more
        turn_ends : t.more ≡ false → Running slots l so_far before t.listed true t.key t.more after
        unfolding had still
        turn_ends m =
            let a = next_at key started k l in
            let z : length l ≡ a = omega (arith, next_within started k l, ap length (s.ends m), length-drop a l) in
            let before_it : Lists listed so_far now (run (take a l)) a before = simp going at r.lists in
            let none : run (take 1 (drop a l)) ≡ [] = rw (s.ends m) nil in
            let whole : run (take a l) ≡ run (take a l) ++ run (take 1 (drop a l)) = rw (none, append-nil) refl in
            record { lists = simp m (rw (z, whole) (lists_within a (omega arith) (lists_on before_it (lists_nothing s.lists none)))); few = r.few }

        pub run_turns : Rising key l → Running slots l so_far before t.listed true t.key t.more after
        run_turns u = by_test t.more (λ m. turn_on u m) (λ m. turn_ends m)

        pub run_less : Rising key l → left true t.key l t.more < left started k l more
        unfolding left still
        run_less u =
            by_test t.more
            (λ m. let h = next_after t.key (next_at key started k l) l (s.goes_on m) (s.rest m u) in simp (m, going) (omega (arith, s.goes_on m)))
            (λ m. simp (m, going) (omega arith))

      module _ {listed : Listed} {started : Bool} {k : ℕ} {more : Bool} {now : List ℕ} (r : Running slots l so_far before listed started k more now) where
        had_within : had started k l more ≤ length l
        unfolding had
        had_within = by_test more (λ m. simp m (next_within started k l)) (λ m. simp m (omega arith))

        pub run_ends : more ≡ false → Lists listed so_far now (run l) slots before
        unfolding had
        run_ends m =
            let all : Lists listed so_far now (run l) (length l) before = rw (take_all (length l) l (omega arith)) at (simp m at r.lists) in
            lists_within slots r.few all

        -- no sum of a run is large
        pub run_small : Small so_far → slots ≤ 256 → (listed.size ≤ large) × (listed.count ≤ large)
        run_small z h =
            let w = had_within in
            (omega (arith, r.lists.at_most, r.few, z.size_small), omega (arith, r.lists.count_is, r.lists.few, r.few, z.count_small))
