-- What a process call that was answered 0 did in guest memory, by its own record.
use Rattle.std.specs.Prelude.{ℕ, ◌+◌, ◌*◌, ◌≤◌, ◌≡◌, List, ◌∷◌, length, drop}
use Rattle.rules.specs.Bytes.{le_at, bytes_of, splice}
use Rattle.rules.specs.Journal.{completion}
use Rattle.rules.specs.declared.Status.{Status}
use Rattle.history.specs.Trace.{Seen}
use Rattle.history.specs.RingHistory.{ring_of, slot_in}

-- the completion in a record
unfoldable pub completion_in : List ℕ → ℕ
completion_in written = le_at 2 written 0

-- of such a call, and what was seen of all calls before it
pub record CompletesItsSlot (before : List Seen) (x : Seen) : Type 0 where
  -- of the slots posted and not consumed before it, the one in its record is the first
  pub later : List ℕ
  pub next : drop (length (ring_of before).consumed) (ring_of before).posted ≡ slot_in x.written ∷ later
  -- the completion in its record is 0x8000 plus the code of a status
  pub status : Status
  pub recorded : completion_in x.written ≡ completion status
  pub returned : x.completed ≡ completion_in x.written
  -- the descriptor of this slot lies in guest memory, its last two bytes become this completion, and no other byte changes
  pub inside : x.base + 32 * slot_in x.written + 32 ≤ length x.memory
  pub stamped : x.memory_after ≡ splice (x.base + 32 * slot_in x.written + 30) (bytes_of 2 (completion_in x.written)) x.memory
