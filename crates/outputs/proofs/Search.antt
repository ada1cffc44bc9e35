-- A search up the heads of the groups, and what the look-up of an ID among the groups gives by where it ended.
-- Assumes nothing.
use Prim.Native.Nat.{ℕ, zero, suc, ◌+◌, ◌<◌, ◌≤◌}
use mathlib.Core.Bool.{Bool, false}
use mathlib.Core.Option.{Option, none, some}
use mathlib.Core.Path.{◌≡◌, refl, ap, sym, ◌∙◌}
use mathlib.Core.List.{List, [], ◌∷◌, map}
use native.Mathlib.Omega.{arith}
use lib.ListN.{length, take, get_or, length-take}
use lib.Dec.{ltb, eqb}
use borrow.Author.Tests.{lt-ltb, le-ltb, eq-eqb, eqb-true, eqb-false}
use Rattle.rules.specs.Choose.{choose}
use Rattle.rules.specs.Keyed.{find}
use Rattle.rules.specs.Rows.{id_in, group_in, beside}
use Rattle.rules.specs.Places.{live}
use Rattle.rules.specs.Tables.{id_of, live_groups}
use Rattle.rules.specs.declared.GroupEntry.{GroupEntry}
use Rattle.rules.proofs.Cases.{by_test, by_lt, gt_eqb, not_both}
use Rattle.rules.proofs.Rows.{get_d_beside, length_beside}
use Rattle.outputs.specs.Outputs.{Passed, Sought}

pub passed_none : (heads : List (List ℕ)) (id : ℕ) → Passed heads id 0
passed_none heads id = record { is = λ i h. absurd (omega arith) }

module _ {heads : List (List ℕ)} {id at : ℕ} (p : Passed heads id at) where
  -- another search starts there, unless what it looks for is lower
  pub passed_from : (k : ℕ) → Passed heads k (choose (ltb k id) 0 at)
  passed_from k =
      by_lt k id (λ h q. simp q (passed_none heads k)) (λ h q. simp q (record { is = λ i g. let b = p.is i g in omega arith }))

  pub passed_more : id_in (get_or heads at []) < id → Passed heads id (at + 1)
  passed_more b =
      record { is = λ i h. by_lt i at (λ g q. p.is i g) (λ g q. let e : i ≡ at = omega arith in rw e b) }

  -- the search ends at a head that is not lower, or past the live ones
  pub stopped : (count : ℕ) → at < length (take count heads) → at < 128 → id ≤ id_in (get_or heads at []) → Sought count heads id at (eqb (id_in (get_or heads at [])) id)
  stopped count h l b =
      record {
        passed = p;
        here = λ q. (l, h, eqb-true (id_in (get_or heads at [])) id q);
        gone = λ q g. let n = eqb-false (id_in (get_or heads at [])) id q in by_lt id (id_in (get_or heads at [])) (λ w r. w) (λ w r. absurd (n (omega arith)));
      }

  pub ended : (count : ℕ) → length (take count heads) ≤ at → Sought count heads id at false
  ended count h = record { passed = p; here = λ q. not_both (sym q); gone = λ q g. absurd (omega arith) }

-- ---- What is found, by where the search ended: for any rows that are read as entries

module _ {R A : Type 0} (read : R → A) (key : A → ℕ) (d : R) (k : ℕ) where
  find_here : (n : ℕ) (rows : List R) (at : ℕ) → ((i : ℕ) → i < at → key (read (get_or rows i d)) < k) → at < length (take n rows)
      → key (read (get_or rows at d)) ≡ k → find key k (map read (take n rows)) ≡ some (read (get_or rows at d))
  unfolding find
  find_here zero rows at b h e = absurd (omega arith)
  find_here (suc n) [] at b h e = absurd (omega arith)
  find_here (suc n) (r ∷ rows) zero b h e = simp (le-ltb (key (read r)) k (omega arith), eq-eqb (key (read r)) k e)
  find_here (suc n) (r ∷ rows) (suc at) b h e =
      simp (lt-ltb (key (read r)) k (b 0 (omega arith))) (find_here n rows at (λ i g. b (suc i) (omega arith)) (omega arith) e)

  find_gone : (n : ℕ) (rows : List R) (at : ℕ) → ((i : ℕ) → i < at → key (read (get_or rows i d)) < k)
      → (at < length (take n rows) → k < key (read (get_or rows at d))) → find key k (map read (take n rows)) ≡ none
  unfolding find
  find_gone zero rows at b h = refl
  find_gone (suc n) [] at b h = refl
  find_gone (suc n) (r ∷ rows) zero b h =
      let a = h (omega arith) in simp (le-ltb (key (read r)) k (omega arith), gt_eqb (key (read r)) k a)
  find_gone (suc n) (r ∷ rows) (suc at) b h =
      simp (lt-ltb (key (read r)) k (b 0 (omega arith))) (find_gone n rows at (λ i g. b (suc i) (omega arith)) (λ g. h (omega arith)))

-- THE LAW: the look-up among the groups, by a search of their heads
pub found : {count id at : ℕ} {heads : List (List ℕ)} {held : Bool} → Sought count heads id at held
    → (members : List (List ℕ)) → length heads ≡ length members
    → find id_of id (live_groups count heads members) ≡ choose held (some (group_in (get_or heads at [], get_or members at []))) none
unfolding live group_in
found {count} {id} {at} {heads} {held} s ms e =
    let l : length (take count (beside heads ms)) ≡ length (take count heads) = omega (arith, length-take count (beside heads ms), length-take count heads, length_beside heads ms e) in
    let b : (i : ℕ) → i < at → id_of (group_in (get_or (beside heads ms) i ([], []))) < id = λ i g. rw (get_d_beside heads ms i e) (s.passed.is i g) in
    by_test held
    (λ p. let h = s.here p in
    simp p (find_here group_in id_of ([], []) id count (beside heads ms) at b (omega arith) (rw (get_d_beside heads ms at e) h.2) ∙ ap {B = Option GroupEntry} (λ r. some (group_in r)) (get_d_beside heads ms at e)))
    (λ p. simp p (find_gone group_in id_of ([], []) id count (beside heads ms) at b (λ g. rw (get_d_beside heads ms at e) (s.gone p (omega arith)))))
