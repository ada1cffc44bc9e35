-- What a write to a ring gives, against the rules.
use Rattle.std.specs.Prelude.{Result, MatchResult, ◌≡◌}
use Rattle.rules.specs.Answers.{refusal_number}
use Rattle.rules.specs.Ring.{Stored}
use Rattle.rules.specs.declared.Refusal.{Refusal}
use Rattle.ring.specs.declared.RingWritten.{RingWritten}

-- a write that the rules do not refuse, and what they make of it
pub record RingDone (w : RingWritten) (of : Stored) : Type 0 where
  pub unrefused : of.refusal ≡ 0
  pub ring : w.ring ≡ of.ring
  pub raises : w.raises ≡ of.raises

-- done as the rules have it, or refused with their number
abbrev pub RingGives : Result RingWritten Refusal → Stored → Type 0
RingGives r of = MatchResult r (λ w. RingDone w of) (λ e. refusal_number e ≡ of.refusal)
