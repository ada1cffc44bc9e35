use Rattle.std.proofs.Common.{min}
use native.Mathlib.Nat.{one-le-pow}
use lib.Dec.{lit<}
use Rattle.rules.proofs.Bytes.{le_at_below}
use Rattle.found.proofs.number_in.Goals as goal

pub returns-in-At-clause-fits : goal.returns-in-At-clause-fits
returns-in-At-clause-fits c = rw c.number_at.ensures (le_at_below (min c.args.width 8) c.args.s.now c.in-At.a (λ j. (c.type_inv.s j).fits))

pub returns-in-Absent-clause-fits : goal.returns-in-Absent-clause-fits
returns-in-Absent-clause-fits c = one-le-pow (min c.args.width 8) 256 (lit< tt)

pub returns-in-Fault-clause-fits : goal.returns-in-Fault-clause-fits
returns-in-Fault-clause-fits c = one-le-pow (min c.args.width 8) 256 (lit< tt)
