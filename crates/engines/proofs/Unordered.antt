-- Flows in no order, and the same flows in rising order of cookie. A look-up finds the same after each command on both, since what it finds is
-- said by the same equation of either store; and where no two cookies are alike, what it finds is what is there.
-- Assumes nothing.
use Prim.Native.Nat.{ℕ, suc, ◌≤◌}
use mathlib.Core.Bool.{true, false}
use mathlib.Core.Option.{none, some, none-ne-some, some-injective}
use mathlib.Core.Logic.{⊎_elim}
use mathlib.Core.Path.{◌≡◌, refl, sym, ap, ◌∙◌}
use mathlib.Core.List.Memᴰ
use mathlib.Core.List.{List, [], ◌∷◌, ◌++◌, Memᴰ}
use native.Mathlib.Omega.{arith}
use lib.Dec.{eqb}
use lib.ListN.{length}
use borrow.Author.Tests.{eq-eqb, ne_eqb}
use Rattle.rules.specs.Choose.{choose}
use Rattle.rules.specs.Keyed.{holds, find, insert, replace, remove, Above, Rising}
use Rattle.rules.specs.Tables.{cookie_of}
use Rattle.rules.specs.Engine.{stands_in, put_over, taken_out}
use Rattle.rules.specs.declared.FlowEntry.{FlowEntry}
use Rattle.rules.proofs.Cases.{by_test, by_eq, by_order, gt_eqb, not_both, true_or_false}
use Rattle.rules.proofs.Keyed.{is_found, holds_found, find_insert, find_replace, find_remove, rising_insert, rising_replace, rising_remove, length_insert, length_replace, length_remove}
use Rattle.engines.specs.Claim.{with_cookie, SameFlows}

-- no two cookies alike
abbrev pub Distinct : List FlowEntry → Type 0
Distinct [] = Unit {0}
Distinct (e ∷ es) = (stands_in e.cookie es ≡ false) × Distinct es

-- ---- What is found in no order

-- a cookie stands there exactly if something is found
stands_found : (k : ℕ) (l : List FlowEntry) → stands_in k l ≡ is_found cookie_of (with_cookie k l)
unfolding stands_in with_cookie
stands_found k [] = refl
stands_found k (e ∷ es) = by_test (eqb e.cookie k) (λ p. simp p) (λ p. simp p (stands_found k es))

with_absent : (k : ℕ) (l : List FlowEntry) → stands_in k l ≡ false → with_cookie k l ≡ none
unfolding stands_in with_cookie
with_absent k [] h = refl
with_absent k (e ∷ es) h = by_test (eqb e.cookie k) (λ p. not_both (simp p at h)) (λ p. simp p (with_absent k es (simp p at h)))

-- after an add of a cookie that was not there
with_added : (k : ℕ) (e : FlowEntry) (l : List FlowEntry) → stands_in e.cookie l ≡ false
    → with_cookie k (l ++ (e ∷ [])) ≡ choose (eqb e.cookie k) (some e) (with_cookie k l)
unfolding stands_in with_cookie
with_added k e [] h = refl
with_added k e (g ∷ gs) h =
    by_eq g.cookie e.cookie
    (λ u p. not_both (simp p at h))
    (λ u p. by_eq g.cookie k
    (λ v q. simp (q, ne_eqb e.cookie k (λ w. u (v ∙ sym w))))
    (λ v q. simp q (with_added k e gs (simp p at h))))

-- after a mod
with_changed : (k : ℕ) (e : FlowEntry) (l : List FlowEntry)
    → with_cookie k (put_over e l) ≡ choose (eqb e.cookie k) (choose (stands_in e.cookie l) (some e) none) (with_cookie k l)
unfolding stands_in with_cookie put_over
with_changed k e [] = by_test (eqb e.cookie k) (λ p. simp p) (λ p. simp p)
with_changed k e (g ∷ gs) =
    by_eq g.cookie e.cookie
    (λ u p. by_eq e.cookie k
    (λ v q. simp (p, q))
    (λ v q. simp (p, q, ne_eqb g.cookie k (λ w. v (sym u ∙ w)))))
    (λ u p. by_eq g.cookie k
    (λ v q. simp (p, q, ne_eqb e.cookie k (λ w. u (v ∙ sym w))))
    (λ v q. simp (p, q) (with_changed k e gs)))

-- after a del, where no two cookies were alike
with_deleted : (k j : ℕ) (l : List FlowEntry) → Distinct l → with_cookie k (taken_out j l) ≡ choose (eqb j k) none (with_cookie k l)
unfolding with_cookie taken_out
with_deleted k j [] d = by_test (eqb j k) (λ p. simp p) (λ p. simp p)
with_deleted k j (g ∷ gs) d =
    by_eq g.cookie j
    (λ u p. by_eq j k
    (λ v q. simp (p, q) (with_absent k gs (rw (← v, ← u) d.0)))
    (λ v q. simp (p, q, ne_eqb g.cookie k (λ w. v (sym u ∙ w)))))
    (λ u p. by_eq g.cookie k
    (λ v q. simp (p, q, ne_eqb j k (λ w. u (v ∙ sym w))))
    (λ v q. simp (p, q) (with_deleted k j gs d.1)))

-- ---- No command makes two cookies alike

stands_added : (k : ℕ) (e : FlowEntry) (l : List FlowEntry) → (e.cookie ≡ k → ⊥) → stands_in k l ≡ false → stands_in k (l ++ (e ∷ [])) ≡ false
unfolding stands_in
stands_added k e [] n h = simp (ne_eqb e.cookie k n)
stands_added k e (g ∷ gs) n h =
    by_test (eqb g.cookie k) (λ p. not_both (simp p at h)) (λ p. simp p (stands_added k e gs n (simp p at h)))

pub distinct_added : (e : FlowEntry) (l : List FlowEntry) → stands_in e.cookie l ≡ false → Distinct l → Distinct (l ++ (e ∷ []))
unfolding stands_in
distinct_added e [] h d = (refl, tt)
distinct_added e (g ∷ gs) h d =
    by_eq g.cookie e.cookie
    (λ u p. not_both (simp p at h))
    (λ u p. (stands_added g.cookie e gs (λ w. u (sym w)) d.0, distinct_added e gs (simp p at h) d.1))

stands_changed : (k : ℕ) (e : FlowEntry) (l : List FlowEntry) → stands_in k (put_over e l) ≡ stands_in k l
unfolding stands_in put_over
stands_changed k e [] = refl
stands_changed k e (g ∷ gs) =
    by_eq g.cookie e.cookie
    (λ u p. simp p (rw u refl))
    (λ u p. by_test (eqb g.cookie k) (λ q. simp (p, q)) (λ q. simp (p, q) (stands_changed k e gs)))

pub distinct_changed : (e : FlowEntry) (l : List FlowEntry) → Distinct l → Distinct (put_over e l)
unfolding put_over
distinct_changed e [] d = tt
distinct_changed e (g ∷ gs) d =
    by_eq g.cookie e.cookie
    (λ u p. simp p (rw (← u) d.0, d.1))
    (λ u p. simp p (stands_changed g.cookie e gs ∙ d.0, distinct_changed e gs d.1))

stands_deleted : (k j : ℕ) (l : List FlowEntry) → stands_in k l ≡ false → stands_in k (taken_out j l) ≡ false
unfolding stands_in taken_out
stands_deleted k j [] h = refl
stands_deleted k j (g ∷ gs) h =
    by_test (eqb g.cookie k)
    (λ p. not_both (simp p at h))
    (λ p. by_test (eqb g.cookie j) (λ q. simp q (simp p at h)) (λ q. simp (p, q) (stands_deleted k j gs (simp p at h))))

pub distinct_deleted : (j : ℕ) (l : List FlowEntry) → Distinct l → Distinct (taken_out j l)
unfolding taken_out
distinct_deleted j [] d = tt
distinct_deleted j (g ∷ gs) d =
    by_test (eqb g.cookie j)
    (λ p. simp p d.1)
    (λ p. simp p (stands_deleted g.cookie j gs d.0, distinct_deleted j gs d.1))

-- ---- Lengths

length_added : (e : FlowEntry) (l : List FlowEntry) → length (l ++ (e ∷ [])) ≡ suc (length l)
length_added e [] = refl
length_added e (g ∷ gs) = ap suc (length_added e gs)

length_changed : (e : FlowEntry) (l : List FlowEntry) → length (put_over e l) ≡ length l
unfolding put_over
length_changed e [] = refl
length_changed e (g ∷ gs) = by_test (eqb g.cookie e.cookie) (λ p. simp p) (λ p. simp p (ap suc (length_changed e gs)))

length_deleted : (k : ℕ) (l : List FlowEntry) → stands_in k l ≡ true → suc (length (taken_out k l)) ≡ length l
unfolding stands_in taken_out
length_deleted k [] h = not_both (sym h)
length_deleted k (g ∷ gs) h =
    by_test (eqb g.cookie k) (λ p. simp p) (λ p. simp p (ap suc (length_deleted k gs (simp p at h))))

-- ---- In rising order the same is found

with_below : (j k : ℕ) (l : List FlowEntry) → j ≤ k → Above cookie_of k l → with_cookie j l ≡ none
unfolding with_cookie
with_below j k [] h a = refl
with_below j k (e ∷ es) h a = simp (gt_eqb e.cookie j (omega arith)) (with_below j k es h a.1)

with_rising : (k : ℕ) (l : List FlowEntry) → Rising cookie_of l → with_cookie k l ≡ find cookie_of k l
unfolding with_cookie find
with_rising k [] s = refl
with_rising k (e ∷ es) s =
    by_order e.cookie k
    (λ h p q. simp (p, q) (with_rising k es s.1))
    (λ h p q. simp (p, q))
    (λ h p q. simp (p, q) (with_below k e.cookie es (omega arith) s.0))

rising_distinct : (l : List FlowEntry) → Rising cookie_of l → Distinct l
rising_distinct [] s = tt
rising_distinct (e ∷ es) s =
    (stands_found e.cookie es ∙ ap (is_found cookie_of) (with_below e.cookie e.cookie es (omega arith) s.0), rising_distinct es s.1)

-- ---- Two lists that are alike by cookie

module _ {l l' : List FlowEntry} (same : SameFlows l l') (s : Rising cookie_of l') where
  pub stands_same : (k : ℕ) → stands_in k l ≡ holds cookie_of k l'
  stands_same k = stands_found k l ∙ ap (is_found cookie_of) (same.at k ∙ with_rising k l' s) ∙ sym (holds_found cookie_of k l')

  pub same_added : (e : FlowEntry) → holds cookie_of e.cookie l' ≡ false → SameFlows (l ++ (e ∷ [])) (insert cookie_of e l')
  same_added e h =
      record {
        number = length_added e l ∙ ap suc same.number ∙ sym (length_insert cookie_of e l');
        at = λ k. rw (with_added k e l (stands_same e.cookie ∙ h), with_rising k (insert cookie_of e l') (rising_insert cookie_of e l' h s), find_insert cookie_of k e l', same.at k, with_rising k l' s) refl;
      }

  pub same_changed : (e : FlowEntry) → SameFlows (put_over e l) (replace cookie_of e l')
  same_changed e =
      record {
        number = length_changed e l ∙ same.number ∙ sym (length_replace cookie_of e l');
        at = λ k. rw (with_changed k e l, with_rising k (replace cookie_of e l') (rising_replace cookie_of e l' s), find_replace cookie_of k e l', same.at k, with_rising k l' s, stands_same e.cookie) refl;
      }

  pub same_deleted : (j : ℕ) → Distinct l → holds cookie_of j l' ≡ true → SameFlows (taken_out j l) (remove cookie_of j l')
  same_deleted j d h =
      record {
        number = (let a = length_deleted j l (stands_same j ∙ h) in let b = rw h at (length_remove cookie_of j l') in let c = same.number in omega arith);
        at = λ k. rw (with_deleted k j l d, with_rising k (remove cookie_of j l') (rising_remove cookie_of j l' s), find_remove cookie_of k j l' s, same.at k, with_rising k l' s) refl;
      }

-- what is there is found, where no two cookies are alike ..
mem_stands : (f : FlowEntry) (l : List FlowEntry) → Memᴰ f l → stands_in f.cookie l ≡ true
unfolding stands_in
mem_stands f [] m = absurd (Memᴰ.not-nil m)
mem_stands f (e ∷ es) m =
    by_eq e.cookie f.cookie
    (λ u p. simp p)
    (λ u p. ⊎_elim (λ w. absurd (u (ap cookie_of (sym w)))) (λ w. simp p (mem_stands f es w)) (Memᴰ.cases_cons m))

mem_found : (f : FlowEntry) (l : List FlowEntry) → Distinct l → Memᴰ f l → with_cookie f.cookie l ≡ some f
unfolding with_cookie
mem_found f [] d m = absurd (Memᴰ.not-nil m)
mem_found f (e ∷ es) d m =
    ⊎_elim
    (λ w. rw (← w) (simp (eq-eqb f.cookie f.cookie refl)))
    (λ w. by_eq e.cookie f.cookie
    (λ u p. true_or_false (stands_in f.cookie es) (mem_stands f es w) (rw (← u) d.0))
    (λ u p. simp p (mem_found f es d.1 w)))
    (Memᴰ.cases_cons m)

-- .. and what is found is there
found_mem : (k : ℕ) (f : FlowEntry) (l : List FlowEntry) → with_cookie k l ≡ some f → Memᴰ f l
unfolding with_cookie
found_mem k f [] h = absurd (none-ne-some f h)
found_mem k f (e ∷ es) h =
    by_test (eqb e.cookie k)
    (λ p. Memᴰ.head (sym (some-injective e f (simp p at h))))
    (λ p. Memᴰ.tail (found_mem k f es (simp p at h)))

-- so the same flows are in both
module _ {l l' : List FlowEntry} (same : SameFlows l l') where
  pub members_to : Distinct l → (f : FlowEntry) → Memᴰ f l → Memᴰ f l'
  members_to d f m = found_mem f.cookie f l' (sym (same.at f.cookie) ∙ mem_found f l d m)

  pub members_from : Rising cookie_of l' → (f : FlowEntry) → Memᴰ f l' → Memᴰ f l
  members_from s f m = found_mem f.cookie f l (same.at f.cookie ∙ mem_found f l' (rising_distinct l' s) m)
