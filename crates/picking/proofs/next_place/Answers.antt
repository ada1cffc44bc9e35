-- What `place` found is where the key stands or belongs; it goes on there, or behind it.
-- Assumes nothing.
use mathlib.Core.Path.{◌≡◌}
use native.Mathlib.Omega.{arith}
use Rattle.picking.specs.Next.{next_at}
use Rattle.picking.proofs.Found.{place_below, next_behind, next_first, next_there, lands, lands_nowhere}
use Rattle.picking.proofs.next_place.Goals as goal
use Rattle.picking.proofs.next_place.Goals.{in-Ok, in-Ok-2, in-Err}

pub overflow_add-at : goal.overflow_add-at
overflow_add-at g c = omega (arith, place_below g.P.Keyed.key c.args.key c.live-live.result.now c.in-Ok.at c.in-Ok.ensures, c.live-live.type_inv.0)

pub returns-then-at-live-clause-place : goal.returns-then-at-live-clause-place
returns-then-at-live-clause-place g c =
    let m : c.match-place.at ≡ next_at g.P.Keyed.key c.args.started c.args.key c.live-live.result.now =
    elim c.match-place.branch [
      | in-Ok w ↦ next_behind g.P.Keyed.key c.args.key c.live-live.result.now c.args.started w.in-Ok.at c.match-place.at w.if-started.true w.in-Ok.ensures w.at-is
      | in-Ok-2 w ↦ next_first g.P.Keyed.key c.args.key c.live-live.result.now c.args.started w.in-Ok.at c.match-place.at w.if-started.false w.in-Ok.ensures w.at-is
      | in-Err w ↦ next_there g.P.Keyed.key c.args.key c.live-live.result.now c.args.started w.in-Err.at c.match-place.at w.in-Err.ensures w.at-is
    ] in
    rw (← c.live-live.ensures) (lands g.P.Keyed.key c.args.key c.live-live.result.now c.args.started c.match-place.at m c.if-at-live.true)

pub returns-else-at-live-clause-place : goal.returns-else-at-live-clause-place
returns-else-at-live-clause-place g c =
    let m : c.match-place.at ≡ next_at g.P.Keyed.key c.args.started c.args.key c.live-live.result.now =
    elim c.match-place.branch [
      | in-Ok w ↦ next_behind g.P.Keyed.key c.args.key c.live-live.result.now c.args.started w.in-Ok.at c.match-place.at w.if-started.true w.in-Ok.ensures w.at-is
      | in-Ok-2 w ↦ next_first g.P.Keyed.key c.args.key c.live-live.result.now c.args.started w.in-Ok.at c.match-place.at w.if-started.false w.in-Ok.ensures w.at-is
      | in-Err w ↦ next_there g.P.Keyed.key c.args.key c.live-live.result.now c.args.started w.in-Err.at c.match-place.at w.in-Err.ensures w.at-is
    ] in
    rw (← c.live-live.ensures) (lands_nowhere g.P.Keyed.key c.args.key c.live-live.result.now c.args.started c.match-place.at m c.if-at-live.false)
