use native.Mathlib.Omega.{arith}
use Rattle.rules.specs.Tables.{tables_of}
use Rattle.replaying.specs.Reading.{progress_of}
use Rattle.report.proofs.Reporting.{progress_put}
use Rattle.report.proofs.put_progress.Goals as goal

pub put_line-requires : goal.put_line-requires
put_line-requires c =
    omega (arith, c.put_line-d.ensures.at_most, c.put_line-c.ensures.at_most, c.put_line-b.ensures.at_most, c.put_line-a.ensures.at_most, c.requires)

pub returns : goal.returns
unfolding progress_of tables_of
returns c =
    progress_put _ c.put_line-a.ensures c.put_line-b.ensures c.put_line-c.ensures
    (rw c.live_flows-live.ensures at c.put_line-d.ensures) (rw c.live_groups-groups.ensures at c.put_line.ensures)
