use Rattle.hexadecimal.proofs.Filling.{fill_ends}
use native.Mathlib.Omega.{arith}
use Rattle.hexadecimal.specs.Hex.{SpellingOf}
use Rattle.hexadecimal.proofs.spell.Goals as goal

pub returns : goal.returns
unfolding SpellingOf
returns c = fill_ends c.loop-k.invariant (omega (arith, c.loop-k.invariant.size, c.loop-k-test.false))
