-- One step over a table whose keys rise: the entry with the least key above one, and what is still to come after it. For any table.
-- Assumes nothing.
use Prim.Native.Nat.{ℕ, zero, suc, ◌<◌, ◌≤◌}
use mathlib.Core.Bool.{Bool, true, false}
use mathlib.Core.Path.{◌≡◌, refl, ap, sym, ◌∙◌, subst}
use mathlib.Core.List.{List, [], ◌∷◌}
use native.Mathlib.Omega.{arith}
use lib.ListN.{length, drop, get_or, drop_of_length-le}
use lib.Seq.{drop-cons}
use borrow.Author.Tests.{lt-ltb, le-ltb, eq-eqb}
use Rattle.rules.specs.Keyed.{position, holds, Above, Rising}
use Rattle.rules.proofs.Cases.{not_both}
use Rattle.picking.specs.Next.{next_at, still, Goes}
use Rattle.listing.specs.Listing.{Lists, Steps}
use Rattle.listing.specs.declared.Listed.{Listed}
use Rattle.listing.specs.declared.Step.{Step}
use Rattle.listing.proofs.Lists.{lists_none}

module _ {A : Type 0} (key : A → ℕ) where
  above_at : (k : ℕ) (l : List A) (at : ℕ) (d : A) → Above key k l → at < length l → k < key (get_or l at d)
  above_at k [] at d a h = absurd (omega arith)
  above_at k (e ∷ es) zero d a h = a.0
  above_at k (e ∷ es) (suc at) d a h = above_at k es at d a.1 (omega arith)

  -- in a rising list each entry stands at the position of its own key
  position_own : (l : List A) (at : ℕ) (d : A) → Rising key l → at < length l → position key (key (get_or l at d)) l ≡ at
  unfolding position
  position_own [] at d s h = absurd (omega arith)
  position_own (e ∷ es) zero d s h = simp (le-ltb (key e) (key e) (omega arith))
  position_own (e ∷ es) (suc at) d s h =
      simp (lt-ltb (key e) (key (get_or es at d)) (above_at (key e) es at d s.0 (omega arith))) (ap suc (position_own es at d s.1 (omega arith)))

  holds_own : (l : List A) (at : ℕ) (d : A) → Rising key l → at < length l → holds key (key (get_or l at d)) l ≡ true
  unfolding holds
  holds_own [] at d s h = absurd (omega arith)
  holds_own (e ∷ es) zero d s h = simp (le-ltb (key e) (key e) (omega arith), eq-eqb (key e) (key e) refl)
  holds_own (e ∷ es) (suc at) d s h =
      simp (lt-ltb (key e) (key (get_or es at d)) (above_at (key e) es at d s.0 (omega arith))) (holds_own es at d s.1 (omega arith))

  next_own : (l : List A) (at : ℕ) (d : A) → Rising key l → at < length l → next_at key true (key (get_or l at d)) l ≡ suc at
  unfolding next_at
  next_own l at d s h = rw (holds_own l at d s h, position_own l at d s h) refl

  module _ {started : Bool} {k : ℕ} {l : List A} {slots at n : ℕ} (g : Goes key started k l slots at n) where
    pub live_there : at < n → at < length l
    live_there h = subst (λ m. at < m) g.live h

    -- what is still to come begins with the entry there
    still_there : (d : A) → at < n → still key started k l ≡ get_or l at d ∷ drop (suc at) l
    unfolding still
    still_there d h = rw (← g.at_is) (drop-cons l at d (live_there h))

    -- nothing is to come
    still_none : n ≤ at → still key started k l ≡ []
    unfolding still
    still_none h = rw (← g.at_is) (drop_of_length-le l {i = at} (omega (arith, g.live)))

    module _ (run : List A → List (List ℕ)) where
      -- there is no entry left
      pub step_ends : {r : Step} (so_far : Listed) (s : List ℕ) → run [] ≡ [] → n ≤ at → r.more ≡ false → r.listed ≡ so_far
          → Steps key run l r so_far started k s s
      step_ends {r} so_far s nil h m e =
          record {
            lists = rw (still_none h, nil, e) (lists_none so_far 1 s);
            rest = λ t u. not_both (sym t ∙ m);
            goes_on = λ t. not_both (sym t ∙ m);
            ends = λ t. still_none h;
          }

      -- the entry there, and what the run makes of it
      pub step_there : {r : Step} {so_far : Listed} {e : A} {after before : List ℕ} (d : A) → at < n → get_or l at d ≡ e → r.more ≡ true → r.key ≡ key e
          → Lists r.listed so_far after (run (e ∷ [])) 1 before → Steps key run l r so_far started k after before
      step_there {r} {so_far} {e} {after} {before} d h w m q s =
          let there : still key started k l ≡ e ∷ drop (suc at) l = rw (← w) (still_there d h) in
          record {
            lists = rw there s;
            rest = λ t u. rw (there, q, ← w) (unfold still in rw (next_own l at d u (live_there h)) refl);
            goes_on = λ t. omega (arith, g.at_is, g.live);
            ends = λ t. not_both (sym m ∙ t);
          }
