-- Lists of entries: at a position; and in rising order of a key: look up, insert, replace, remove. For any entry and any key.
use Rattle.std.specs.Prelude.{ℕ, zero, suc, ◌<◌, Bool, false, List, [], ◌∷◌, ltb, eqb}
use Rattle.std.proofs.Math.Option.{Option, none, some}
use Rattle.rules.specs.Choose.{choose}

module _ {A : Type 0} where
  -- an entry put in at a position, the rest moved up
  abbrev pub insert_at : ℕ → A → List A → List A
  insert_at zero a l = a ∷ l
  insert_at (suc i) a [] = a ∷ []
  insert_at (suc i) a (x ∷ l) = x ∷ insert_at i a l

  -- the list without its entry at a position
  abbrev pub without : ℕ → List A → List A
  without i [] = []
  without zero (x ∷ l) = l
  without (suc i) (x ∷ l) = x ∷ without i l

module _ {A : Type 0} (key : A → ℕ) where
  -- the position of a key: how many entries at the front have a lower one
  unfoldable pub position : ℕ → List A → ℕ
  position k [] = 0
  position k (e ∷ es) = choose (ltb (key e) k) (suc (position k es)) 0

  -- whether an entry at that position has the key
  unfoldable pub holds : ℕ → List A → Bool
  holds k [] = false
  holds k (e ∷ es) = choose (ltb (key e) k) (holds k es) (eqb (key e) k)

  -- the entry with a key
  unfoldable pub find : ℕ → List A → Option A
  find k [] = none
  find k (e ∷ es) = choose (ltb (key e) k) (find k es) (choose (eqb (key e) k) (some e) none)

  unfoldable pub insert : A → List A → List A
  insert e [] = e ∷ []
  insert e (g ∷ gs) = choose (ltb (key g) (key e)) (g ∷ insert e gs) (e ∷ g ∷ gs)

  unfoldable pub replace : A → List A → List A
  replace e [] = []
  replace e (g ∷ gs) = choose (ltb (key g) (key e)) (g ∷ replace e gs) (choose (eqb (key g) (key e)) (e ∷ gs) (g ∷ gs))

  unfoldable pub remove : ℕ → List A → List A
  remove k [] = []
  remove k (g ∷ gs) = choose (ltb (key g) k) (g ∷ remove k gs) (choose (eqb (key g) k) gs (g ∷ gs))

  -- every key of the list is above k
  abbrev pub Above : ℕ → List A → Type 0
  Above k [] = Unit
  Above k (e ∷ es) = (k < key e) × Above k es

  -- strictly rising keys: in order, and no two alike
  abbrev pub Rising : List A → Type 0
  Rising [] = Unit
  Rising (e ∷ es) = Above (key e) es × Rising es
