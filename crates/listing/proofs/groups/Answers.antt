-- As flows; the key stays one of 32 bits.
-- Assumes nothing.
use Rattle.rules.specs.Tables.{id_of}
use Rattle.listing.proofs.Runs.{run_starts, run_turns, run_less, run_ends, run_small}
use Rattle.listing.proofs.Tables.{group_run_nil, group_run_append, groups_few}
use native.Mathlib.Omega.{arith}
use Rattle.listing.proofs.groups.Goals as goal

pub loop-more-init : goal.loop-more-init
loop-more-init c =
    let h = c.args.places.now.heads in
    (run_starts id_of _ (group_run_nil _ _ _) (groups_few _ h _ (omega (arith, c.all-1.given))), omega arith)

pub group_step-t-requires : goal.group_step-t-requires
group_step-t-requires c =
    let i = c.loop-more.invariant in
    let z = run_small id_of _ (group_run_nil _ _ _) i.0 c.requires.1 (omega arith) in
    (z.0, z.1, i.1)

pub loop-more-smaller : goal.loop-more-smaller
loop-more-smaller c =
    run_less id_of _ (group_run_nil _ _ _) (group_run_append _ _ _) c.loop-more.invariant.0 c.group_step-t.ensures.steps c.loop-more-test.true c.requires.0

pub loop-more-preserved : goal.loop-more-preserved
loop-more-preserved c =
    (run_turns id_of _ (group_run_nil _ _ _) (group_run_append _ _ _) c.loop-more.invariant.0 c.group_step-t.ensures.steps c.loop-more-test.true c.requires.0, c.group_step-t.ensures.key_bound)

pub shape_of-out : goal.shape_of-out
shape_of-out c = c.loop-more.invariant.0.lists.kept

pub returns : goal.returns
returns c = run_ends id_of _ (group_run_nil _ _ _) c.loop-more.invariant.0 c.loop-more-test.false
