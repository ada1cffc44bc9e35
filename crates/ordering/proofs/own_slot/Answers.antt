-- The search ends at a slot, or behind the last.
-- Assumes nothing.
use native.Mathlib.Omega.{arith}
use mathlib.Core.Path.{◌∙◌}
use Rattle.ordering.proofs.Flows.{own_found}
use Rattle.ordering.proofs.own_slot.Goals as goal

pub returns : goal.returns
returns c =
    let a = c.args in
    (c.min.ensures ∙ own_found a.flows.now a.at a.order.now c.slot.result c.requires.0 (omega arith) c.entry_of.ensures c.slot.ensures.0, omega (arith, c.min.ensures))
