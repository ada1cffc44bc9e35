-- Lists in rising order of a key: what look-up finds after a change, and what a change keeps. For any entry and any key.
-- Assumes nothing.
use Prim.Native.Nat.{ℕ, suc, ◌<◌, ◌≤◌}
use mathlib.Core.Bool.{Bool, true, false}
use mathlib.Core.Option.{Option, none, some}
use mathlib.Core.Path.{◌≡◌, refl, ap, sym}
use mathlib.Core.List.{List, [], ◌∷◌}
use native.Mathlib.Omega.{arith}
use lib.Dec.{eqb}
use lib.ListN.{length, set}
use borrow.Author.Tests.{lt-ltb, le-ltb}
use Rattle.rules.specs.Choose.{choose}
use Rattle.rules.specs.Keyed.{insert_at, without, position, holds, find, insert, replace, remove, Above, Rising}
use Rattle.rules.proofs.Cases.{by_test, by_lt, by_eq, by_order, gt_eqb, not_both}

module _ {A : Type 0} (key : A → ℕ) where
  -- ---- What is found

  -- after an insert: the new entry at its key, and elsewhere what was there
  pub find_insert : (k : ℕ) (e : A) (l : List A) → find key k (insert key e l) ≡ choose (eqb (key e) k) (some e) (find key k l)
  unfolding find insert
  find_insert k e [] = by_order (key e) k (λ h p q. simp (p, q)) (λ h p q. simp (p, q)) (λ h p q. simp (p, q))
  find_insert k e (g ∷ gs) =
      by_lt (key g) (key e)
      (λ h p. by_lt (key g) k (λ i q. simp (p, q) (find_insert k e gs)) (λ i q. simp (p, q, gt_eqb (key e) k (omega arith))))
      (λ h p. by_order (key e) k
      (λ i q r. simp (p, q, r))
      (λ i q r. simp (p, q, r))
      (λ i q r. simp (p, q, r, le-ltb (key g) k (omega arith), gt_eqb (key g) k (omega arith))))

  -- after a replacement: the new entry at its key where that was there, and elsewhere what was there
  pub find_replace : (k : ℕ) (e : A) (l : List A)
      → find key k (replace key e l) ≡ choose (eqb (key e) k) (choose (holds key (key e) l) (some e) none) (find key k l)
  unfolding find replace holds
  find_replace k e [] = by_test (eqb (key e) k) (λ p. simp p) (λ p. simp p)
  find_replace k e (g ∷ gs) =
      by_order (key g) (key e)
      (λ h p q. by_lt (key g) k (λ i r. simp (p, q, r) (find_replace k e gs)) (λ i r. simp (p, q, r, gt_eqb (key e) k (omega arith))))
      (λ h p q. by_order (key e) k
      (λ i r s. simp (p, q, r, s, lt-ltb (key g) k (omega arith)))
      (λ i r s. simp (p, q, r, s))
      (λ i r s. simp (p, q, r, s, le-ltb (key g) k (omega arith), gt_eqb (key g) k (omega arith))))
      (λ h p q. by_eq (key e) k
      (λ i r. simp (p, q, r, le-ltb (key g) k (omega arith), gt_eqb (key g) k (omega arith)))
      (λ i r. simp (p, q, r)))

  pub above_less : (j k : ℕ) (l : List A) → j ≤ k → Above key k l → Above key j l
  above_less j k [] h a = tt
  above_less j k (e ∷ es) h a = (omega arith, above_less j k es h a.1)

  -- below the first key nothing is found
  pub find_below : (j k : ℕ) (l : List A) → j ≤ k → Above key k l → find key j l ≡ none
  unfolding find
  find_below j k [] h a = refl
  find_below j k (e ∷ es) h a = simp (le-ltb (key e) j (omega arith), gt_eqb (key e) j (omega arith))

  -- after a removal: nothing at its key, and elsewhere what was there
  pub find_remove : (k j : ℕ) (l : List A) → Rising key l → find key k (remove key j l) ≡ choose (eqb j k) none (find key k l)
  unfolding find remove
  find_remove k j [] s = by_test (eqb j k) (λ p. simp p) (λ p. simp p)
  find_remove k j (g ∷ gs) s =
      by_order (key g) j
      (λ h p q. by_lt (key g) k (λ i r. simp (p, q, r) (find_remove k j gs s.1)) (λ i r. simp (p, q, r, gt_eqb j k (omega arith))))
      (λ h p q. by_order j k
      (λ i r t. simp (p, q, t, lt-ltb (key g) k (omega arith)))
      (λ i r t. simp (p, q, t) (find_below k (key g) gs (omega arith) s.0))
      (λ i r t. simp (p, q, t, le-ltb (key g) k (omega arith), gt_eqb (key g) k (omega arith)) (find_below k (key g) gs (omega arith) s.0)))
      (λ h p q. by_eq j k
      (λ i r. simp (p, q, r, le-ltb (key g) k (omega arith), gt_eqb (key g) k (omega arith)))
      (λ i r. simp (p, q, r)))

  -- a key is held exactly if something is found
  abbrev pub is_found : Option A → Bool
  is_found none = false
  is_found (some e) = true

  pub holds_found : (k : ℕ) (l : List A) → holds key k l ≡ is_found (find key k l)
  unfolding find holds
  holds_found k [] = refl
  holds_found k (e ∷ es) =
      by_order (key e) k (λ h p q. simp p (holds_found k es)) (λ h p q. simp (p, q)) (λ h p q. simp (p, q))

  -- ---- What a change keeps: rising keys, so that no two are alike

  above_insert : (k : ℕ) (e : A) (l : List A) → k < key e → Above key k l → Above key k (insert key e l)
  unfolding insert
  above_insert k e [] h a = (h, tt)
  above_insert k e (g ∷ gs) h a =
      by_lt (key g) (key e) (λ i p. simp p (a.0, above_insert k e gs h a.1)) (λ i p. simp p (h, a))

  pub rising_insert : (e : A) (l : List A) → holds key (key e) l ≡ false → Rising key l → Rising key (insert key e l)
  unfolding insert holds
  rising_insert e [] f s = (tt, tt)
  rising_insert e (g ∷ gs) f s =
      by_order (key g) (key e)
      (λ h p q. simp p (above_insert (key g) e gs h s.0, rising_insert e gs (simp p at f) s.1))
      (λ h p q. not_both (simp (p, q) at f))
      (λ h p q. simp p ((h, above_less (key e) (key g) gs (omega arith) s.0), s))

  above_replace : (k : ℕ) (e : A) (l : List A) → Above key k l → Above key k (replace key e l)
  unfolding replace
  above_replace k e [] a = tt
  above_replace k e (g ∷ gs) a =
      by_order (key g) (key e)
      (λ h p q. simp p (a.0, above_replace k e gs a.1))
      (λ h p q. simp (p, q) (omega arith, a.1))
      (λ h p q. simp (p, q) a)

  pub rising_replace : (e : A) (l : List A) → Rising key l → Rising key (replace key e l)
  unfolding replace
  rising_replace e [] s = tt
  rising_replace e (g ∷ gs) s =
      by_order (key g) (key e)
      (λ h p q. simp p (above_replace (key g) e gs s.0, rising_replace e gs s.1))
      (λ h p q. simp (p, q) (above_less (key e) (key g) gs (omega arith) s.0, s.1))
      (λ h p q. simp (p, q) s)

  above_remove : (k j : ℕ) (l : List A) → Above key k l → Above key k (remove key j l)
  unfolding remove
  above_remove k j [] a = tt
  above_remove k j (g ∷ gs) a =
      by_order (key g) j (λ h p q. simp p (a.0, above_remove k j gs a.1)) (λ h p q. simp (p, q) a.1) (λ h p q. simp (p, q) a)

  pub rising_remove : (j : ℕ) (l : List A) → Rising key l → Rising key (remove key j l)
  unfolding remove
  rising_remove j [] s = tt
  rising_remove j (g ∷ gs) s =
      by_order (key g) j
      (λ h p q. simp p (above_remove (key g) j gs s.0, rising_remove j gs s.1))
      (λ h p q. simp (p, q) s.1)
      (λ h p q. simp (p, q) s)

  -- ---- Lengths change by one at most

  pub length_insert : (e : A) (l : List A) → length (insert key e l) ≡ suc (length l)
  unfolding insert
  length_insert e [] = refl
  length_insert e (g ∷ gs) = by_lt (key g) (key e) (λ h p. simp p (ap suc (length_insert e gs))) (λ h p. simp p)

  pub length_replace : (e : A) (l : List A) → length (replace key e l) ≡ length l
  unfolding replace
  length_replace e [] = refl
  length_replace e (g ∷ gs) =
      by_order (key g) (key e) (λ h p q. simp p (ap suc (length_replace e gs))) (λ h p q. simp (p, q)) (λ h p q. simp (p, q))

  -- a key that is held leaves a list that is one shorter
  pub length_remove : (k : ℕ) (l : List A) → suc (length (remove key k l)) ≡ choose (holds key k l) (length l) (suc (length l))
  unfolding remove holds
  length_remove k [] = refl
  length_remove k (g ∷ gs) =
      by_order (key g) k
      (λ h p q. by_test (holds key k gs)
      (λ r. simp (p, r) (ap suc (simp r at (length_remove k gs))))
      (λ r. simp (p, r) (ap suc (simp r at (length_remove k gs)))))
      (λ h p q. simp (p, q))
      (λ h p q. simp (p, q))

  pub length_remove_le : (k : ℕ) (l : List A) → length (remove key k l) ≤ length l
  length_remove_le k l =
      by_test (holds key k l)
      (λ r. omega (arith, simp r at (length_remove k l)))
      (λ r. omega (arith, simp r at (length_remove k l)))

  -- ---- The rules by position

  pub position_le : (k : ℕ) (l : List A) → position key k l ≤ length l
  unfolding position
  position_le k [] = omega arith
  position_le k (g ∷ gs) = by_lt (key g) k (λ h p. simp p (omega (arith, position_le k gs))) (λ h p. simp p (omega arith))

  -- a key that is held stands at one of the entries
  pub holds_lt : (k : ℕ) (l : List A) → holds key k l ≡ true → position key k l < length l
  unfolding position holds
  holds_lt k [] t = not_both (sym t)
  holds_lt k (g ∷ gs) t = by_lt (key g) k (λ h p. simp p (omega (arith, holds_lt k gs (simp p at t)))) (λ h p. simp p (omega arith))

  pub insert_at_lem : (e : A) (l : List A) → insert key e l ≡ insert_at (position key (key e) l) e l
  unfolding insert position
  insert_at_lem e [] = refl
  insert_at_lem e (g ∷ gs) = by_lt (key g) (key e) (λ h p. simp p (ap {B = List A} (λ r. g ∷ r) (insert_at_lem e gs))) (λ h p. simp p)

  pub replace_at : (e : A) (l : List A) → holds key (key e) l ≡ true → replace key e l ≡ set l (position key (key e) l) e
  unfolding replace position holds
  replace_at e [] t = refl
  replace_at e (g ∷ gs) t =
      by_order (key g) (key e)
      (λ h p q. simp (p, q) (ap {B = List A} (λ r. g ∷ r) (replace_at e gs (simp p at t))))
      (λ h p q. simp (p, q))
      (λ h p q. not_both (sym (simp (p, q) at t)))

  pub remove_at : (k : ℕ) (l : List A) → holds key k l ≡ true → remove key k l ≡ without (position key k l) l
  unfolding remove position holds
  remove_at k [] t = refl
  remove_at k (g ∷ gs) t =
      by_order (key g) k
      (λ h p q. simp (p, q) (ap {B = List A} (λ r. g ∷ r) (remove_at k gs (simp p at t))))
      (λ h p q. simp (p, q))
      (λ h p q. not_both (sym (simp (p, q) at t)))
