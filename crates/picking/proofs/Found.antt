-- What a search found, as look-up and as the place to go on at, for any table: look-up gives the entry at the key's position where the key
-- is held, else none.
-- Assumes nothing.
use Prim.Native.Nat.{ℕ, ◌+◌, ◌<◌, ◌≤◌}
use mathlib.Core.Bool.{Bool, true, false, not, ◌&&◌}
use mathlib.Core.Option.{none, some}
use mathlib.Core.Path.{◌≡◌, refl, sym, ◌∙◌}
use mathlib.Core.List.{List, [], ◌∷◌}
use native.Mathlib.Omega.{arith}
use lib.ListN.{length, get_or}
use Rattle.rules.specs.Choose.{choose}
use Rattle.rules.specs.Keyed.{position, holds, find}
use Rattle.rules.specs.Undo.{picks}
use Rattle.rules.proofs.Cases.{by_test, by_lt, by_order, not_both, and_right}
use borrow.Author.Tests.{lt-ltb, le-ltb}
use Rattle.std.specs.Prelude.{Option, Some, None, Result, Ok, Err}
use Rattle.rules.specs.declared.Status.{Status}
use Rattle.tables.specs.Commands.{place_of, held_place_of}
use Rattle.tables.proofs.Search.{Sought}
use Rattle.picking.specs.Next.{next_at, next_place, Goes}

module _ {A : Type 0} (key : A → ℕ) where
  find_at : (k : ℕ) (l : List A) (d : A) → find key k l ≡ choose (holds key k l) (some (get_or l (position key k l) d)) none
  unfolding find holds position
  find_at k [] d = refl
  find_at k (e ∷ es) d = by_order (key e) k (λ h p q. simp p (find_at k es d)) (λ h p q. simp (p, q)) (λ h p q. simp (p, q))

  pub holds_below : (k : ℕ) (l : List A) → holds key k l ≡ true → position key k l < length l
  unfolding holds position
  holds_below k [] h = not_both (sym h)
  holds_below k (e ∷ es) h =
      by_lt (key e) k (λ i p. simp p (let r = holds_below k es (simp p at h) in omega arith)) (λ i p. simp p (omega arith))

  position_le : (k : ℕ) (l : List A) → position key k l ≤ length l
  unfolding position
  position_le k [] = omega arith
  position_le k (e ∷ es) = by_lt (key e) k (λ i p. simp p (omega (arith, position_le k es))) (λ i p. simp p (omega arith))

  next_le : (started : Bool) (k : ℕ) (l : List A) → next_at key started k l ≤ length l
  unfolding next_at
  next_le started k l =
      by_test (started && holds key k l)
      (λ t. simp t (omega (arith, holds_below k l (and_right started (holds key k l) t))))
      (λ t. simp t (position_le k l))

  -- where it goes on, where there is an entry, and where there is none
  module _ (started : Bool) (k slots : ℕ) (l : List A) (few : length l ≤ slots) where
    pub goes_to : (at : ℕ) → Some at ≡ next_place key started k l → Goes key started k l slots at (length l) × (at < length l)
    unfolding next_place
    goes_to at is =
        by_lt (next_at key started k l) (length l)
        (λ h p.
        let e : ◌≡◌ {A = Option ℕ} (Some at) (Some (next_at key started k l)) = simp p at is in
        let f : at ≡ next_at key started k l = cc in
        (record { at_is = f; live = refl; inside = few; within = omega arith }, omega arith))
        (λ h p. let e : ◌≡◌ {A = Option ℕ} (Some at) None = simp p at is in (cc))

    pub goes_nowhere : None ≡ next_place key started k l → Goes key started k l slots (next_at key started k l) (length l) × (length l ≤ next_at key started k l)
    unfolding next_place
    goes_nowhere is =
        by_lt (next_at key started k l) (length l)
        (λ h p. let e : ◌≡◌ {A = Option ℕ} None (Some (next_at key started k l)) = simp p at is in (cc))
        (λ h p. (record { at_is = refl; live = refl; inside = few; within = next_le started k l }, h))

  -- what the search for a key found
  module _ (k : ℕ) (l : List A) where
    place_held : (at : ℕ) → Ok at ≡ place_of key k l → (at ≡ position key k l) × (holds key k l ≡ true)
    unfolding place_of
    place_held at is =
        by_test (holds key k l)
        (λ h. let e : ◌≡◌ {A = Result ℕ ℕ} (Ok at) (Ok (position key k l)) = simp h at is in (cc, h))
        (λ h. let e : ◌≡◌ {A = Result ℕ ℕ} (Ok at) (Err (position key k l)) = simp h at is in (cc))

    place_gone : (at : ℕ) → Err at ≡ place_of key k l → (at ≡ position key k l) × (holds key k l ≡ false)
    unfolding place_of
    place_gone at is =
        by_test (holds key k l)
        (λ h. let e : ◌≡◌ {A = Result ℕ ℕ} (Err at) (Ok (position key k l)) = simp h at is in (cc))
        (λ h. let e : ◌≡◌ {A = Result ℕ ℕ} (Err at) (Err (position key k l)) = simp h at is in (cc, h))

    pub place_below : (at : ℕ) → Ok at ≡ place_of key k l → at < length l
    place_below at is = let f = place_held at is in omega (arith, f.0, holds_below k l f.1)

    pub held_gone : (e : Status) → Err e ≡ held_place_of key k l → holds key k l ≡ false
    unfolding place_of
    held_gone e is =
        by_test (holds key k l)
        (λ h. let s : ◌≡◌ {A = Result ℕ Status} (Err e) (Ok (position key k l)) = simp h at is in (cc))
        (λ h. h)

    module _ (started : Bool) (at m : ℕ) where
      pub next_behind : started ≡ true → Ok at ≡ place_of key k l → m ≡ at + 1 → m ≡ next_at key started k l
      unfolding next_at
      next_behind t is e = let f = place_held at is in rw (t, f.1) (omega (arith, e, f.0))

      pub next_first : started ≡ false → Ok at ≡ place_of key k l → m ≡ at → m ≡ next_at key started k l
      unfolding next_at
      next_first t is e = let f = place_held at is in rw t (omega (arith, e, f.0))

      pub next_there : Err at ≡ place_of key k l → m ≡ at → m ≡ next_at key started k l
      unfolding next_at
      next_there is e = let f = place_gone at is in by_test started (λ t. simp (t, f.1) (omega (arith, e, f.0))) (λ t. simp t (omega (arith, e, f.0)))

    module _ (started : Bool) (m : ℕ) (is : m ≡ next_at key started k l) where
      pub lands : m < length l → Some m ≡ next_place key started k l
      unfolding next_place
      lands h = rw (← is, lt-ltb m (length l) h) refl

      pub lands_nowhere : length l ≤ m → None ≡ next_place key started k l
      unfolding next_place
      lands_nowhere h = rw (← is, le-ltb m (length l) h) refl

  -- whether a run picks an entry, by the search for its key: g is what stands where it was found
  module _ (same : A → A → Bool) (there : Bool) (e : A) {slots n at : ℕ} {l : List A} where
    pub picks_other : {g r : A} {b : Bool} (d : A) → Sought key slots (key e) n l at true → get_or l at d ≡ r → g ≡ r → b ≡ same g e
        → there && not b ≡ picks key same there (find key (key e) l) e
    picks_other d s p u q = rw (find_at (key e) l d, s.holds_is, ← s.position_is, p, q, u) refl

  pub picks_absent : (same : A → A → Bool) (there : Bool) (e : A) (l : List A) → holds key (key e) l ≡ false
      → not there ≡ picks key same there (find key (key e) l) e
  picks_absent same there e l h = rw (find_at (key e) l e, h) refl
