-- What the order of a table is, and what looking up a key means by it. For any entry and any key.
use Rattle.std.specs.Prelude.{ℕ, ◌≤◌, ◌≡◌, ◌↔◌, ◌⊎◌, List, [], ◌∷◌, length}
use Rattle.std.proofs.Math.Option.{none, some}
use Rattle.rules.specs.Keyed.{find, Rising}

-- an entry is one of a list
abbrev pub IsIn : {A : Type 0} → A → List A → Type 0
IsIn e [] = ⊥
IsIn e (g ∷ gs) = (g ≡ e) ⊎ IsIn e gs

pub record OrderedTable {A : Type 0} (key : A → ℕ) (limit : ℕ) (l : List A) : Type 0 where
  -- each key is above the one before it, so no two are alike
  pub rises : Rising key l
  pub fits : length l ≤ limit
  -- an entry is found at a key exactly if it is in the table and has this key ..
  pub finds : (k : ℕ) (e : A) → (find key k l ≡ some e) ↔ (IsIn e l × (key e ≡ k))
  -- .. and none exactly if no entry of the table has it
  pub misses : (k : ℕ) → (find key k l ≡ none) ↔ ((e : A) → IsIn e l → key e ≡ k → ⊥)
