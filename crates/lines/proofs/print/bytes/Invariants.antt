use mathlib.Core.Path.{◌≡◌}
use Rattle.lines.proofs.print.bytes.Given as goal

abbrev pub invariant-loop-piece : goal.invariant-loop-piece
invariant-loop-piece g l = l.piece-iterator.size ≡ 2048
