use Rattle.hexadecimal.proofs.Filling.{Filled}
use Rattle.hexadecimal.specs.Hex.{byte_of}
use Rattle.hexadecimal.proofs.bytes.Given as goal

abbrev pub invariant-loop-i : goal.invariant-loop-i
invariant-loop-i l = Filled (byte_of l.s) l.initial.out l.i l.out
