use mathlib.Core.Path.{sym}
use lib.Seq.{length-take-le}
use Rattle.replaying.specs.Replaying.{result_of}
use borrow.Author.Rules.{rules}
use Rattle.report.proofs.report.Goals as goal

pub returns-in-Ok : goal.returns-in-Ok
unfolding result_of
returns-in-Ok c = record { puts = rw c.in-Ok.is c.put_progress.ensures; front = (search rules, sym (length-take-le _ _ (search rules))) }

pub returns-in-Err : goal.returns-in-Err
unfolding result_of
returns-in-Err c = record { puts = rw (c.in-Err.is, ← c.refusal_number.ensures) c.put_fault.ensures; front = (search rules, sym (length-take-le _ _ (search rules))) }
