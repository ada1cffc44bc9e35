use Rattle.rules.specs.Decode.{group_allowed}
use Rattle.rules.specs.GroupId.{group_type, is_routing}
use borrow.Author.Tests.{eq-eqb, ne_eqb}
use lib.Dec.{eqb}
use mathlib.Core.Bool.{Bool, true, false, ◌&&◌}
use mathlib.Core.Path.{◌≡◌, refl, sym}
use Rattle.command.proofs.group.group_allowed.Goals as goal

and_true : (b : Bool) → b && true ≡ b
and_true true = refl
and_true false = refl

pub returns-then-t-eq0 : goal.returns-then-t-eq0
unfolding group_allowed
returns-then-t-eq0 c = λ l e.
    let k = rw c.terms-terms.ensures at c.allowed-known.ensures in
    simp (
      c.terms-terms.ensures,
      ← c.type_of-t.ensures,
      eq-eqb _ _ c.if-t-eq0.true,
      ← k,
      ← c.value-port.ensures,
      ← c.low_of.ensures,
      ← c.value.ensures,
    )

pub returns-then-is_routing : goal.returns-then-is_routing
unfolding group_allowed
returns-then-is_routing c = λ l e.
    let k = rw c.terms-terms.ensures at c.allowed-known.ensures in
    simp (
      ← c.type_of-t.ensures,
      ne_eqb _ _ c.if-t-eq0.false,
      ← k,
      ← c.is_routing.ensures,
      c.if-is_routing.true,
      ← c.be16-vlan.ensures,
      ← c.word-lower.ensures,
      ← c.lower_fits.ensures,
    )

pub returns : goal.returns
unfolding group_allowed
returns c = λ l e.
    let k = rw c.terms-terms.ensures at c.allowed-known.ensures in
    let z : eqb (group_type c.args.id) 0 ≡ false = rw (← c.type_of-t.ensures) (ne_eqb _ _ c.if-t-eq0.false) in
    let w : is_routing (group_type c.args.id) ≡ false = rw (← c.type_of-t.ensures, ← c.is_routing.ensures) c.if-is_routing.false in
    simp (z, w, ← k, e z w) (sym (and_true c.allowed-known.result))
