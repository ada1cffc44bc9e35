use Rattle.rules.specs.Decode.{flow_user}
use Rattle.encoding.specs.Writing.{flow_user_of}
use borrow.Author.Tests.{eq-eqb, ne_eqb}
use Rattle.encoding.proofs.flow_user.Goals as goal

pub returns-then-command-eq-FLOW_DEL : goal.returns-then-command-eq-FLOW_DEL
unfolding flow_user_of
returns-then-command-eq-FLOW_DEL c = simp (eq-eqb _ _ c.if-command-eq-FLOW_DEL.true)

pub returns-then-table-eq0 : goal.returns-then-table-eq0
unfolding flow_user_of flow_user
returns-then-table-eq0 c = simp (ne_eqb _ _ c.if-command-eq-FLOW_DEL.false, eq-eqb _ _ c.if-table-eq0.true)

pub returns-then-table-eq10 : goal.returns-then-table-eq10
unfolding flow_user_of flow_user
returns-then-table-eq10 c = simp (ne_eqb _ _ c.if-command-eq-FLOW_DEL.false, ne_eqb _ _ c.if-table-eq0.false, eq-eqb _ _ c.if-table-eq10.true)

pub returns-then-table-eq20 : goal.returns-then-table-eq20
unfolding flow_user_of flow_user
returns-then-table-eq20 c = simp (ne_eqb _ _ c.if-command-eq-FLOW_DEL.false, ne_eqb _ _ c.if-table-eq0.false, ne_eqb _ _ c.if-table-eq10.false, eq-eqb _ _ c.if-table-eq20.true)

pub returns-then-table-eq30 : goal.returns-then-table-eq30
unfolding flow_user_of
returns-then-table-eq30 c =
    rw (c.route_user.ensures, ne_eqb _ _ c.if-command-eq-FLOW_DEL.false, c.if-table-eq30.true)

pub returns : goal.returns
unfolding flow_user_of flow_user
returns c =
    simp
    (ne_eqb _ _ c.if-command-eq-FLOW_DEL.false, ne_eqb _ _ c.if-table-eq0.false, ne_eqb _ _ c.if-table-eq10.false, ne_eqb _ _ c.if-table-eq20.false, ne_eqb _ _ c.if-table-eq30.false)
