-- What the exported functions promise of the words and places that the host holds, and of all that is borrowed from it.
use Rattle.std.specs.Prelude.{ℕ, ◌+◌, Bool, ◌≡◌, List, [], ◌∷◌, length, get_or, Result as Either, IfOk, OnErr}
use mir.Syntax.{w8, w16, w32, w64, ty_int, ty_array}
use prog.Memory.{size}
use Rattle.rules.specs.Answers.{answer_number}
use Rattle.rules.specs.Choose.{choose}
use Rattle.rules.specs.Members.{elem}
use Rattle.rules.specs.Tables.{fresh_arrays}
use Rattle.rules.specs.Journal.{completion}
use Rattle.rules.specs.Told.{Told}
use Rattle.rules.specs.Switch.{Storage, Result, switch_of, fresh_refusal, fresh_device, fresh_storage}
use Rattle.rules.specs.declared.Refusal.{Refusal}
use Rattle.rules.specs.declared.Status.TheVariants.{Ok}
use Rattle.device.specs.declared.Called.{Called}
use Rattle.words.specs.Words.{device_in}

unfoldable pub bit_of : Bool → ℕ
bit_of b = choose b 1 0

-- the six numbers that a call gives: what it tells, where of the vectors there is one, 0
abbrev pub six : ℕ → ℕ → ℕ → ℕ → ℕ → ℕ → List ℕ
six value raised completed bytes outputs reset = value ∷ raised ∷ completed ∷ bytes ∷ outputs ∷ reset ∷ []

unfoldable pub told_in : Told → List ℕ
told_in t = six t.value (bit_of (elem 0 t.vectors)) t.completed t.written t.outputs (bit_of t.reset)

-- a refused call has 0 in each
unfoldable pub numbers_of : Result → List ℕ
numbers_of of = told_in of.told

-- of a call: its answer; the words and the arrays before and after it; the six numbers, 0 where the function does not give one; what
-- guest memory, buffer and list hold after it; and the rules' result of it
pub record Outcome (answer : ℕ) (w w' : List ℕ) (a a' : Storage) (out memory buffer list : List ℕ) (of : Result) : Type 0 where
  pub answer_is : answer ≡ of.answer
  pub out_is : out ≡ numbers_of of
  pub memory_is : memory ≡ of.memory
  pub buffer_is : buffer ≡ of.buffer
  pub list_is : list ≡ of.list
  pub switch_is : switch_of (device_in w') a' ≡ of.switch
  -- a refused call leaves every bit of what the host holds
  pub kept : (of.answer ≡ 0 → ⊥) → (w' ≡ w) × (a' ≡ a)
  -- and so does every call of its tables and their order, unless it completed a command OK
  pub places_kept : (of.told.completed ≡ completion Ok → ⊥) → a' ≡ a

-- the device stored where its call was done; refused, no word changes
pub record Stored (answer : ℕ) (r : Either Called Refusal) (w w' : List ℕ) : Type 0 where
  pub answer_is : answer ≡ answer_number r
  pub done : IfOk r (λ c. device_in w' ≡ c.device)
  pub kept : OnErr r (w' ≡ w)

-- of fresh: refused, it leaves what was there
pub record FreshOutcome (answer : ℕ) (w w' : List ℕ) (a a' : Storage) (ports id : ℕ) : Type 0 where
  pub answer_is : answer ≡ fresh_refusal ports
  pub made : answer ≡ 0 → (device_in w' ≡ fresh_device ports id) × (a' ≡ fresh_storage)
  pub kept : (answer ≡ 0 → ⊥) → (w' ≡ w) × (a' ≡ a)

-- how many numbers a row of an array has
abbrev pub row_length : List (List ℕ) → ℕ
row_length rows = length (get_or rows 0 [])

-- The bytes of the five arrays that a host holds, as the logic's machine lays out their types: those of the places and their order have the
-- shape that a fresh device's have
unfoldable pub parts_size : ℕ
parts_size =
    size (ty_array (ty_int w64) 20)
    + size (ty_array (ty_array (ty_int w32) (row_length fresh_arrays.flows)) (length fresh_arrays.flows))
    + size (ty_array (ty_array (ty_int w32) (row_length fresh_arrays.heads)) (length fresh_arrays.heads))
    + size (ty_array (ty_array (ty_int w16) (row_length fresh_arrays.members)) (length fresh_arrays.members))
    + size (ty_array (ty_int w8) (length fresh_storage.order))
