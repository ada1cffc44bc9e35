-- The fields of the types below t are put, and those from t on are left (`flow_rest`); each has 24 bytes at most.
use native.Mathlib.Omega.{arith}
use Rattle.encoding.proofs.Written.{going_starts, going_on, going_ends}
use Rattle.encoding.proofs.FieldLists.{rest_all, rest_next, rest_none}
use borrow.Author.Rules.{rules}
use Rattle.encoding.proofs.put_flow_fields.Goals as goal

pub loop-t-init : goal.loop-t-init
loop-t-init c = rw rest_all (going_starts _)

pub put_flow_field-end-requires : goal.put_flow_field-end-requires
put_flow_field-end-requires c =
    let l = c.loop-t in
    omega (arith, l.auto.out, l.auto.t, l.invariant.puts.at_most, c.requires, c.loop-t-test.true)

pub loop-t-preserved : goal.loop-t-preserved
loop-t-preserved c =
    going_on _ _ (search rules) (search rules) (rest_next _ _ _ c.loop-t-test.true) c.loop-t.invariant c.put_flow_field-end.ensures

pub returns : goal.returns
returns c = going_ends 1032 (rest_none _ _ _ c.loop-t-test.false) (search rules) c.loop-t.invariant
