-- Rows that are read as entries: what the rules say of the entries, they say of the rows under the key that a row reads as.
-- Assumes nothing.
use Prim.Native.Nat.{ℕ, suc}
use mathlib.Core.Path.{◌≡◌, refl, ap}
use mathlib.Core.List.{List, [], ◌∷◌, map}
use Rattle.rules.specs.Keyed.{position, holds, insert, replace, remove}
use Rattle.rules.proofs.Cases.{by_lt, by_order}

module _ {R A : Type 0} (read : R → A) (key : A → ℕ) where
  abbrev pub row_key : R → ℕ
  row_key r = key (read r)

  pub map_holds : (k : ℕ) (l : List R) → holds key k (map read l) ≡ holds row_key k l
  unfolding holds
  map_holds k [] = refl
  map_holds k (g ∷ gs) = by_lt (key (read g)) k (λ h p. simp p (map_holds k gs)) (λ h p. simp p)

  pub map_position : (k : ℕ) (l : List R) → position key k (map read l) ≡ position row_key k l
  unfolding position
  map_position k [] = refl
  map_position k (g ∷ gs) = by_lt (key (read g)) k (λ h p. simp p (ap suc (map_position k gs))) (λ h p. simp p)

  pub map_insert : (r : R) (l : List R) → map read (insert row_key r l) ≡ insert key (read r) (map read l)
  unfolding insert
  map_insert r [] = refl
  map_insert r (g ∷ gs) =
      by_lt (key (read g)) (key (read r)) (λ h p. simp p (ap {B = List A} (λ t. read g ∷ t) (map_insert r gs))) (λ h p. simp p)

  pub map_replace : (r : R) (l : List R) → map read (replace row_key r l) ≡ replace key (read r) (map read l)
  unfolding replace
  map_replace r [] = refl
  map_replace r (g ∷ gs) =
      by_order (key (read g)) (key (read r))
      (λ h p q. simp (p, q) (ap {B = List A} (λ t. read g ∷ t) (map_replace r gs)))
      (λ h p q. simp (p, q))
      (λ h p q. simp (p, q))

  pub map_remove : (k : ℕ) (l : List R) → map read (remove row_key k l) ≡ remove key k (map read l)
  unfolding remove
  map_remove k [] = refl
  map_remove k (g ∷ gs) =
      by_order (key (read g)) k
      (λ h p q. simp (p, q) (ap {B = List A} (λ t. read g ∷ t) (map_remove k gs)))
      (λ h p q. simp (p, q))
      (λ h p q. simp (p, q))
