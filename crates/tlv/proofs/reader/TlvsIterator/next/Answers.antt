use Rattle.std.proofs.Common.{◌∷◌, Err, refl, sym, ap, ◌∙◌, arith}
use Rattle.rules.specs.Region.{tlv_end}
use Rattle.rules.proofs.Region.{step_inside}
use Rattle.tlv.proofs.Reading.{front_is, front_not, left_next, left_end, left_fault, goes_first}
use Rattle.tlv.proofs.reader.TlvsIterator.next.Goals as goal
use Rattle.tlv.proofs.reader.TlvsIterator.next.Goals.{In-Ok}

pub returns-then-self-clause-steps : goal.returns-then-self-clause-steps
returns-then-self-clause-steps c = let none = sym c.self.view_is ∙ left_end _ _ _ c.if-self.true in (none, none)

pub filled-requires : goal.filled-requires
unfolding tlv_end
filled-requires c =
    let v = step_inside _ _ _ _ (front_is c.self.inside.header c.self.inside.region.now c.self.inside.at _ c.in-Ok.ensures) in
    omega (arith, v.fits)

pub overflow_add-self : goal.overflow_add-self
unfolding tlv_end
overflow_add-self c =
    let v = step_inside _ _ _ _ (front_is c.self.inside.header c.self.inside.region.now c.self.inside.at _ c.in-Ok.ensures) in
    record { fits = omega (arith, v.fits, c.filled.ensures) }

pub invariant_of-self : goal.invariant_of-self
unfolding tlv_end
invariant_of-self c =
    let v = step_inside _ _ _ _ (front_is c.self.inside.header c.self.inside.region.now c.self.inside.at _ c.in-Ok.ensures) in
    omega (arith, v.fits, c.filled.ensures)

pub returns-in-Ok-clause-steps : goal.returns-in-Ok-clause-steps
unfolding tlv_end
returns-in-Ok-clause-steps c = sym c.self.view_is ∙ left_next _ _ _ _ (front_is c.self.inside.header c.self.inside.region.now c.self.inside.at _ c.in-Ok.ensures) ∙ rw c.filled.ensures

pub returns-in-Ok-clause-goes : goal.returns-in-Ok-clause-goes
returns-in-Ok-clause-goes c = goes_first (returns-in-Ok-clause-steps c)

pub returns-in-Err-clause-steps : goal.returns-in-Err-clause-steps
returns-in-Err-clause-steps c =
    sym c.self.view_is ∙ left_fault _ _ _ (front_not c.self.inside.header c.self.inside.region.now c.self.inside.at _ c.in-Err.ensures) c.if-self.false ∙ ap (λ rest. Err c.in-Err.e ∷ rest) (sym (left_end c.self.inside.header c.self.inside.region.now _ refl))

pub returns-in-Err-clause-goes : goal.returns-in-Err-clause-goes
returns-in-Err-clause-goes c = goes_first (returns-in-Err-clause-steps c)
