-- The whole outcome of a frame call.
use Rattle.std.specs.Prelude.{ℕ, ◌≡◌, List, length, eqb, Result, IfOk}
use Rattle.rules.specs.Choose.{choose}
use Rattle.rules.specs.Answers.{answer_number}
use Rattle.rules.specs.Frame.{Decider, frame_refusal, outputs, list_after}
use Rattle.rules.specs.declared.Registers.{Registers}
use Rattle.rules.specs.declared.GroupEntry.{GroupEntry}
use Rattle.rules.specs.declared.Refusal.{Refusal}

-- the answer; the number of outputs, where it is done; the list with the outputs at its start, or as it was where refused
pub record Outcome (d : Registers) (decides : Decider) (groups : List GroupEntry) (port : ℕ) (f before : List ℕ) (r : Result ℕ Refusal) (after : List ℕ) : Type 0 where
  pub answer : answer_number r ≡ frame_refusal d port f before
  pub count : IfOk r (λ n. n ≡ length (outputs d decides groups port f))
  pub list : after ≡ choose (eqb (frame_refusal d port f before) 0) (list_after (outputs d decides groups port f) before) before
