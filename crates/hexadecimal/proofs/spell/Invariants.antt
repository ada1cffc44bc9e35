use Rattle.hexadecimal.proofs.Filling.{Filled}
use Rattle.hexadecimal.specs.Hex.{spelled_at}
use Rattle.hexadecimal.proofs.spell.Given as goal

abbrev pub invariant-loop-k : goal.invariant-loop-k
invariant-loop-k l = Filled (spelled_at l.s) l.initial.out l.k l.out
