-- What a call tells besides its answer: built from nothing by the parts that the call has.
use Rattle.std.specs.Prelude.{ℕ, Bool, false, List, []}

pub record Told : Type 0 where
  pub value : ℕ  -- what a read gives
  pub vectors : List ℕ  -- the vectors that were raised
  pub completed : ℕ  -- the completion (COMP_ERR) that process wrote, 0 for none
  pub written : ℕ  -- bytes written into the buffer
  pub outputs : ℕ  -- outputs written into the list
  pub reset : Bool  -- whether the device was reset, so that its journal begins anew

abbrev pub nothing : Told
nothing = record { value = 0; vectors = []; completed = 0; written = 0; outputs = 0; reset = false }

abbrev pub with_value : ℕ → Told → Told
with_value v t = record { value = v; vectors = t.vectors; completed = t.completed; written = t.written; outputs = t.outputs; reset = t.reset }

abbrev pub with_vectors : List ℕ → Told → Told
with_vectors vs t = record { value = t.value; vectors = vs; completed = t.completed; written = t.written; outputs = t.outputs; reset = t.reset }

abbrev pub with_completed : ℕ → Told → Told
with_completed c t = record { value = t.value; vectors = t.vectors; completed = c; written = t.written; outputs = t.outputs; reset = t.reset }

abbrev pub with_written : ℕ → Told → Told
with_written n t = record { value = t.value; vectors = t.vectors; completed = t.completed; written = n; outputs = t.outputs; reset = t.reset }

abbrev pub with_outputs : ℕ → Told → Told
with_outputs n t = record { value = t.value; vectors = t.vectors; completed = t.completed; written = t.written; outputs = n; reset = t.reset }

abbrev pub with_reset : Bool → Told → Told
with_reset b t = record { value = t.value; vectors = t.vectors; completed = t.completed; written = t.written; outputs = t.outputs; reset = b }
