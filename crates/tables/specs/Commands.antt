-- What a command leaves of a table, for flows and groups alike.
use Rattle.std.specs.Prelude.{ℕ, ◌≡◌, List, eqb, leb, length, Result, Ok, Err}
use Rattle.std.specs.Result.{result_or}
use Rattle.rules.specs.Choose.{choose}
use Rattle.rules.specs.Answers.{code}
use Rattle.rules.specs.Keyed.{position, holds, insert, replace, remove}
use Rattle.rules.specs.Tables.{add_status, held_status}
use Rattle.rules.specs.declared.Status.{Status}
use Rattle.rules.specs.declared.Status.TheVariants.{Enoent, Enomem, Eexist}
use Rattle.rules.specs.declared.Status.TheVariants.{Ok as Fine}

-- ---- Where a key stands

-- what a search for a key gives an add, of a table with so many places and live entries
unfoldable pub free_of : ℕ → ℕ → Result ℕ ℕ → Result ℕ Status
free_of slots n (Ok at) = Err Eexist
free_of slots n (Err at) = choose (leb slots n) (Err Enomem) (Ok at)

module _ {A : Type 0} (key : A → ℕ) where
  -- the position of a key among the live entries, as an error where it only belongs there
  unfoldable pub place_of : ℕ → List A → Result ℕ ℕ
  place_of k l = choose (holds key k l) (Ok (position key k l)) (Err (position key k l))

  -- the position for a new key, in a table of so many places
  abbrev pub free_place_of : ℕ → ℕ → List A → Result ℕ Status
  free_place_of slots k l = free_of slots (length l) (place_of k l)

  -- the position of a key that is there
  abbrev pub held_place_of : ℕ → List A → Result ℕ Status
  held_place_of k l = result_or (place_of k l) (Err Enoent)

-- ---- What a command leaves

-- the status of a command's result
abbrev pub status_of : {A : Type 0} → Result A Status → Status
status_of (Ok a) = Fine
status_of (Err e) = e

-- Of a command on the table t: `rule` is the status that the rules give it, `effect` what they make of the live entries at OK. What the
-- free places hold after OK is left open: no rule reads them.
pub record Changed {T A : Type 0} (live : T → List A) (t : T) (rule : Status) (effect : List A) (status : Status) (table : T) : Type 0 where
  pub status_is : status ≡ rule
  pub live_is : live table ≡ choose (eqb (code rule) 0) effect (live t)
  -- a status other than OK leaves the count and every word, those of free places too
  pub kept : (rule ≡ Fine → ⊥) → table ≡ t

module _ {T A : Type 0} (live : T → List A) (key : A → ℕ) (slots : ℕ) where
  abbrev pub Added : T → A → Status → T → Type 0
  Added t e = Changed live t (add_status (holds key) slots (key e) (live t)) (insert key e (live t))

  abbrev pub Modded : T → A → Status → T → Type 0
  Modded t e = Changed live t (held_status (holds key) (key e) (live t)) (replace key e (live t))

  abbrev pub Deleted : T → ℕ → Status → T → Type 0
  Deleted t k = Changed live t (held_status (holds key) k (live t)) (remove key k (live t))
