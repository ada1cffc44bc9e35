-- What the calls of this crate give, against the rules.
use Rattle.std.specs.Prelude.{◌≡◌, ℕ, false, Result, MatchResult}
use Rattle.rules.specs.Answers.{refusal_number}
use Rattle.rules.specs.Registers.{raised}
use Rattle.rules.specs.Registers as rule
use Rattle.rules.specs.declared.Refusal.{Refusal}
use Rattle.rules.specs.declared.Registers.{Registers}
use Rattle.registers.specs.declared.Written.{Written}

-- done exactly where nothing refuses, and then with this value; else refused with this number. A read, fresh and link
abbrev pub Comes : {A : Type 0} → Result A Refusal → ℕ → A → Type 0
Comes r refusal value = MatchResult r (λ x. (refusal ≡ 0) × (x ≡ value)) (λ e. refusal_number e ≡ refusal)

-- a write that the rules do not refuse, and what they make of it. The one vector that it may raise is 0
pub record Writes (w : Written) (of : rule.Written) : Type 0 where
  pub unrefused : of.refusal ≡ 0
  pub registers : w.registers ≡ of.registers
  pub vectors : raised 0 w.interrupt ≡ of.vectors
  pub resets : w.resets ≡ of.resets

-- a write: done as the rules have it, or refused with their number
abbrev pub Gives : Result Written Refusal → rule.Written → Type 0
Gives r of = MatchResult r (λ w. Writes w of) (λ e. refusal_number e ≡ of.refusal)

-- registers that take what was written
abbrev pub done : Registers → Written
done d = record { registers = d; interrupt = false; resets = false }
