-- What undoing promises: the code's result and the room after it are the rule's.
use Rattle.std.specs.Prelude.{◌≡◌, ℕ, List, Result, Ok, Err}
use Rattle.rules.specs.Answers.{refusal_number}
use Rattle.rules.specs.Undo.{Undone as Told}
use Rattle.listing.specs.declared.Listed.{Listed}
use Rattle.replaying.specs.declared.replay.ReplayFault.{ReplayFault}

abbrev pub Undone : Type 0
Undone = Result Listed ReplayFault

unfoldable pub told_by : Undone → List ℕ → Told
told_by (Ok l) room = record { answer = 0; at = 0; count = l.count; size = l.size; room = room }
told_by (Err f) room = record { answer = refusal_number f.refusal; at = f.at; count = 0; size = 0; room = room }

abbrev pub Is : Undone → List ℕ → Told → Type 0
Is r after rule = told_by r after ≡ rule
