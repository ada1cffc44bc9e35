-- `outputs::members_of` meets its contract.
-- Assumes nothing.
use mathlib.Core.Path.{◌∙◌}
use Rattle.outputs.proofs.Search.{passed_none}
use Rattle.outputs.proofs.Outputs.{of_type, stands_found, stands_missing}
use native.Mathlib.Omega.{arith}
use borrow.Author.Rules.{rules}
use Rattle.outputs.proofs.members_of.Goals as goal

pub returns-then-type_of-eq0 : goal.returns-then-type_of-eq0
returns-then-type_of-eq0 c = c.itself.ensures.is _

pub seek-p-requires : goal.seek-p-requires
seek-p-requires c = passed_none _ _

pub offset_bounds-heads-at : goal.offset_bounds-heads-at
offset_bounds-heads-at c = let h = c.seek-p.ensures.here c.if-p.true in search rules

pub bounds-heads-at : goal.bounds-heads-at
bounds-heads-at c = omega (arith, c.seek-p.ensures.here c.if-p.true)

pub offset_bounds-members-at : goal.offset_bounds-members-at
offset_bounds-members-at c = omega (arith, c.seek-p.ensures.here c.if-p.true)

pub bounds-members-at : goal.bounds-members-at
bounds-members-at c = omega (arith, c.seek-p.ensures.here c.if-p.true)

pub members_in-requires : goal.members_in-requires
members_in-requires c =
    of_type _ _ c.group_of.ensures (c.seek-p.ensures.here c.if-p.true).2 (λ z. c.if-type_of-eq0.false (c.type_of.ensures ∙ z))

pub returns-then-p : goal.returns-then-p
returns-then-p c =
    stands_found _ c.seek-p.ensures _ (omega (arith, c.all-1.given, c.lows-1.given)) c.if-p.true c.group_of.ensures c.members_in.ensures

pub returns : goal.returns
returns c =
    stands_missing _ c.seek-p.ensures _ (omega (arith, c.all-1.given, c.lows-1.given)) c.if-p.false c.no_members.ensures
