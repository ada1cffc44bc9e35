-- A table whose keys rise holds at most one entry at a key, and look-up finds it: by induction on the table, along its order.
-- Assumes nothing.
use Prim.Native.Nat.{ℕ, ◌≤◌, ◌<◌}
use mathlib.Core.Path.{◌≡◌, refl, sym, ap, ◌∙◌}
use mathlib.Core.Logic.{inl, inr}
use mathlib.Core.Option.{Option, none, some, none-ne-some, some-injective}
use mathlib.Core.List.{List, [], ◌∷◌}
use native.Mathlib.Omega.{arith}
use lib.ListN.{length}
use borrow.Author.Tests.{lt-ltb, le-ltb, eq-eqb}
use Rattle.rules.specs.Keyed.{find, Above, Rising}
use Rattle.rules.proofs.Cases.{by_order}
use Rattle.history.specs.TableOrder.{IsIn, OrderedTable}

-- a look-up that finds no entry gives none
no_entry : {A : Type 0} (o : Option A) → ((e : A) → o ≡ some e → ⊥) → o ≡ none
no_entry none h = refl
no_entry (some e) h = absurd (h e refl)

module _ {A : Type 0} (key : A → ℕ) where
  -- what is found is in the table, at its key
  found_is_in : (k : ℕ) (e : A) (l : List A) → find key k l ≡ some e → IsIn e l × (key e ≡ k)
  unfolding find
  found_is_in k e [] f = absurd (none-ne-some e f)
  found_is_in k e (g ∷ gs) f =
      by_order (key g) k
      (λ h p q. let r = found_is_in k e gs (simp p at f) in (inr r.0, r.1))
      (λ h p q. let i = some-injective g e (simp (p, q) at f) in (inl i, ap key (sym i) ∙ h))
      (λ h p q. absurd (none-ne-some e (simp (p, q) at f)))

  is_above : (k : ℕ) (e : A) (l : List A) → Above key k l → IsIn e l → k < key e
  is_above k e [] a m = absurd m
  is_above k e (g ∷ gs) a (inl i) = rw (← i) a.0
  is_above k e (g ∷ gs) a (inr m) = is_above k e gs a.1 m

  -- what is in a table whose keys rise is found at its key
  is_in_found : (e : A) (l : List A) → Rising key l → IsIn e l → find key (key e) l ≡ some e
  unfolding find
  is_in_found e [] s m = absurd m
  is_in_found e (g ∷ gs) s (inl i) = simp (i, le-ltb (key e) (key e) (omega arith), eq-eqb (key e) (key e) refl)
  is_in_found e (g ∷ gs) s (inr m) = simp (lt-ltb (key g) (key e) (is_above (key g) e gs s.0 m)) (is_in_found e gs s.1 m)

  pub ordered_table : (limit : ℕ) (l : List A) → Rising key l → length l ≤ limit → OrderedTable key limit l
  ordered_table limit l s fit =
      let there : (k : ℕ) (e : A) → IsIn e l → key e ≡ k → find key k l ≡ some e = λ k e m q. rw (← q) (is_in_found e l s m) in
      record {
        rises = s;
        fits = fit;
        finds = λ k e. (found_is_in k e l, λ m. there k e m.0 m.1);
        misses = λ k. (
          λ n e m q. none-ne-some e (sym n ∙ there k e m q),
          λ n. no_entry (find key k l) (λ e f. let m = found_is_in k e l f in n e m.0 m.1),
        );
      }
