-- A table whose keys rise, gone over by the least key above the last one.
use Rattle.std.specs.Prelude.{ℕ, suc, ◌≤◌, Bool, ◌&&◌, ◌≡◌, List, length, drop, ltb, Option, Some, None}
use Rattle.rules.specs.Choose.{choose}
use Rattle.rules.specs.Keyed.{position, holds}

module _ {A : Type 0} (key : A → ℕ) where
  -- where it goes on after a key; before there was one, at the start
  unfoldable pub next_at : Bool → ℕ → List A → ℕ
  next_at started k l = choose (started && holds key k l) (suc (position key k l)) (position key k l)

  -- the same, unless that is behind the last
  unfoldable pub next_place : Bool → ℕ → List A → Option ℕ
  next_place started k l = choose (ltb (next_at started k l) (length l)) (Some (next_at started k l)) None

  -- the entries that it has not had
  unfoldable pub still : Bool → ℕ → List A → List A
  still started k l = drop (next_at started k l) l

  pub record Goes (started : Bool) (k : ℕ) (l : List A) (slots at n : ℕ) : Type 0 where
    pub at_is : at ≡ next_at started k l
    pub live : n ≡ length l
    pub inside : n ≤ slots
    pub within : at ≤ n
