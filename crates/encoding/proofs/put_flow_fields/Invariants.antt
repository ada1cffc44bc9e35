use Prim.Native.Nat.{◌*◌, ◌-◌}
use Rattle.rules.specs.Encode.{region_of, flow_fields}
use Rattle.encoding.proofs.Written.{Going}
use Rattle.encoding.proofs.FieldLists.{flow_rest}
use Rattle.encoding.proofs.put_flow_fields.Given as goal

abbrev pub invariant-loop-t : goal.invariant-loop-t
invariant-loop-t l =
    Going (region_of (flow_fields l.who l.e)) (region_of (flow_rest l.who l.e l.t)) l.at l.initial.out (24 * (l.t - 1)) l.end l.out
