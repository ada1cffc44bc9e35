use native.Mathlib.Omega.{arith}
use Rattle.rules.specs.Encode.{flow_value}
use Rattle.encoding.proofs.FieldLists.{no_number}
use Rattle.encoding.proofs.flow_value.Goals as goal

pub returns-then-t-eq-TBL : goal.returns-then-t-eq-TBL
unfolding flow_value
returns-then-t-eq-TBL c = rw c.if-t-eq-TBL.true

pub returns-then-t-eq-PRIORITY : goal.returns-then-t-eq-PRIORITY
unfolding flow_value
returns-then-t-eq-PRIORITY c = rw c.if-t-eq-PRIORITY.true

pub returns-then-t-eq-HARDTIME : goal.returns-then-t-eq-HARDTIME
unfolding flow_value
returns-then-t-eq-HARDTIME c = rw c.if-t-eq-HARDTIME.true

pub returns-then-t-eq-IDLETIME : goal.returns-then-t-eq-IDLETIME
unfolding flow_value
returns-then-t-eq-IDLETIME c = rw c.if-t-eq-IDLETIME.true

pub returns-then-t-eq-COOKIE : goal.returns-then-t-eq-COOKIE
unfolding flow_value
returns-then-t-eq-COOKIE c = rw c.if-t-eq-COOKIE.true

pub returns-then-t-eq-IN_PPORT : goal.returns-then-t-eq-IN_PPORT
unfolding flow_value
returns-then-t-eq-IN_PPORT c = rw c.if-t-eq-IN_PPORT.true

pub returns-then-t-eq-IN_PPORT_MASK : goal.returns-then-t-eq-IN_PPORT_MASK
unfolding flow_value
returns-then-t-eq-IN_PPORT_MASK c = rw c.if-t-eq-IN_PPORT_MASK.true

pub returns-then-t-eq-GOTO_TBL : goal.returns-then-t-eq-GOTO_TBL
unfolding flow_value
returns-then-t-eq-GOTO_TBL c = rw c.if-t-eq-GOTO_TBL.true

pub returns-then-t-eq-GROUP_ID : goal.returns-then-t-eq-GROUP_ID
unfolding flow_value
returns-then-t-eq-GROUP_ID c = rw c.if-t-eq-GROUP_ID.true

-- no other type of those has a number
pub returns-then-t-lt-GROUP_ID : goal.returns-then-t-lt-GROUP_ID
returns-then-t-lt-GROUP_ID c =
    no_number _ _ c.if-t-lt-GROUP_ID.true c.if-t-eq-TBL.false c.if-t-eq-PRIORITY.false c.if-t-eq-HARDTIME.false c.if-t-eq-IDLETIME.false c.if-t-eq-COOKIE.false c.if-t-eq-IN_PPORT.false c.if-t-eq-IN_PPORT_MASK.false c.if-t-eq-GOTO_TBL.false

pub header_value-requires : goal.header_value-requires
header_value-requires c =
    (omega (arith, c.if-t-lt-GROUP_ID.false, c.if-t-eq-GROUP_ID.false), c.requires)
