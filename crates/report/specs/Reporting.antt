-- Text written into a buffer.
use Rattle.std.specs.Prelude.{ℕ, ◌+◌, ◌≤◌, ◌≡◌, List, [], length, take, Result, Ok, Err}
use Rattle.rules.specs.Bytes.{splice}
use Rattle.rules.specs.Answers.{refusal_number}
use Rattle.rules.specs.Undo.{Undone}
use Rattle.replaying.specs.declared.replay.ReplayFault.{ReplayFault}
use Rattle.listing.specs.declared.Listed.{Listed}

-- bytes over a buffer from a position on, and where they end; there are no more than `most`
pub record Puts (r : ℕ) (after : List ℕ) (at : ℕ) (bytes before : List ℕ) (most : ℕ) : Type 0 where
  pub buffer_is : after ≡ splice at bytes before
  pub end_is : r ≡ at + length bytes
  pub at_most : r ≤ at + most

-- a number of bytes at the start of a buffer, as a borrow of that part asks it
abbrev pub Front : ℕ → List ℕ → Type 0
Front n s = (n ≤ length s) × (n ≡ length (take n s))

-- of what undoing gives, all but the room: that is not printed
abbrev pub told_undone : ℕ → ℕ → ℕ → ℕ → Undone
told_undone answer at count size = record { answer = answer; at = at; count = count; size = size; room = [] }

-- the same of a result
unfoldable pub told_outcome : Result Listed ReplayFault → Undone
told_outcome (Ok l) = record { answer = 0; at = 0; count = l.count; size = l.size; room = [] }
told_outcome (Err f) = record { answer = refusal_number f.refusal; at = f.at; count = 0; size = 0; room = [] }
