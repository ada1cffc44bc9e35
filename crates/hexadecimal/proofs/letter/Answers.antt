use borrow.Author.Tests.{lt-ltb, le-ltb}
use native.Mathlib.Omega.{arith}
use Rattle.hexadecimal.specs.Hex.{letter_of}
use Rattle.hexadecimal.proofs.letter.Goals as goal

pub returns-in-0-to-9 : goal.returns-in-0-to-9
unfolding letter_of
returns-in-0-to-9 c = simp (lt-ltb c.args.v 10 (omega arith))

pub returns-in-10-to-15 : goal.returns-in-10-to-15
unfolding letter_of
returns-in-10-to-15 c = simp (le-ltb c.args.v 10 (omega arith), lt-ltb c.args.v 16 (omega arith))

pub returns-in_default : goal.returns-in_default
unfolding letter_of
returns-in_default c = simp (le-ltb c.args.v 10 (omega arith), le-ltb c.args.v 16 (omega arith))
