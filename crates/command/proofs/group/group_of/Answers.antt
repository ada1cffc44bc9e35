use Rattle.rules.specs.Decode.{group_of}
use Rattle.rules.specs.GroupId.{group_type, is_routing}
use borrow.Author.Tests.{eq-eqb, ne_eqb}
use lib.Dec.{eqb}
use mathlib.Core.Bool.{false}
use mathlib.Core.Path.{◌≡◌}
use native.Mathlib.Omega.{arith}
use Rattle.command.proofs.group.group_of.Goals as goal

pub returns-then-t-eq0 : goal.returns-then-t-eq0
unfolding group_of
returns-then-t-eq0 c = simp (← c.type_of-t.ensures, eq-eqb _ _ c.if-t-eq0.true, ← c.value.ensures)

pub returns-then-is_routing : goal.returns-then-is_routing
unfolding group_of
returns-then-is_routing c =
    simp (
      ← c.type_of-t.ensures,
      ne_eqb _ _ c.if-t-eq0.false,
      ← c.is_routing.ensures,
      c.if-is_routing.true,
      ← c.be16.ensures,
      ← c.value-then-is_routing.ensures,
      ← c.value-then-is_routing-2.ensures,
    )

pub overflow_cast-result : goal.overflow_cast-result
overflow_cast-result c =
    let z : eqb (group_type c.args.id) 0 ≡ false = rw (← c.type_of-t.ensures) (ne_eqb _ _ c.if-t-eq0.false) in
    let w : is_routing (group_type c.args.id) ≡ false = rw (← c.type_of-t.ensures, ← c.is_routing.ensures) c.if-is_routing.false in
    omega (arith, c.requires z w, c.value-2.ensures)

pub returns : goal.returns
unfolding group_of
returns c =
    simp (
      ← c.type_of-t.ensures,
      ne_eqb _ _ c.if-t-eq0.false,
      ← c.is_routing.ensures,
      c.if-is_routing.false,
      ← c.value-2.ensures,
    )
