-- What is listed so far is the run over the flows that it has had (`Running`).
-- Assumes nothing.
use Rattle.rules.specs.Tables.{cookie_of}
use Rattle.listing.proofs.Runs.{run_starts, run_turns, run_less, run_ends, run_small}
use Rattle.listing.proofs.Tables.{flow_run_nil, flow_run_append, flows_few}
use native.Mathlib.Omega.{arith}
use Rattle.listing.proofs.flows.Goals as goal

pub loop-more-init : goal.loop-more-init
loop-more-init c = run_starts cookie_of _ (flow_run_nil _ _ _) (flows_few _ _ (omega (arith, c.all-1.given)))

pub flow_step-t-requires : goal.flow_step-t-requires
flow_step-t-requires c = run_small cookie_of _ (flow_run_nil _ _ _) c.loop-more.invariant c.requires.1 (omega arith)

pub loop-more-smaller : goal.loop-more-smaller
loop-more-smaller c =
    run_less cookie_of _ (flow_run_nil _ _ _) (flow_run_append _ _ _) c.loop-more.invariant c.flow_step-t.ensures c.loop-more-test.true c.requires.0

pub loop-more-preserved : goal.loop-more-preserved
loop-more-preserved c =
    run_turns cookie_of _ (flow_run_nil _ _ _) (flow_run_append _ _ _) c.loop-more.invariant c.flow_step-t.ensures c.loop-more-test.true c.requires.0

pub shape_of-out : goal.shape_of-out
shape_of-out c = c.loop-more.invariant.lists.kept

pub returns : goal.returns
returns c = run_ends cookie_of _ (flow_run_nil _ _ _) c.loop-more.invariant c.loop-more-test.false
