use mathlib.Core.Path.{sym}
use native.Mathlib.Nat.{mod-eq_of_lt}
use Rattle.ring.proofs.reduced.Goals as goal

pub returns-then-i-size : goal.returns-then-i-size
returns-then-i-size c = sym (mod-eq_of_lt c.if-i-size.true)
