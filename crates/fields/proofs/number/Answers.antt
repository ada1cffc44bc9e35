use Rattle.std.proofs.Common.{◌≡◌, ◌∙◌, min, arith}
use Rattle.rules.specs.Fields.{field, value, rule_of}
use Rattle.fields.proofs.number.Goals as goal
use Rattle.fields.proofs.number.Goals.{After-number_in}

whole : (c : After-number_in) → let w = (rule_of c.args.t).width in min w 8 ≡ w
whole c = omega (arith, c.requires.2)

pub returns-clause-value : goal.returns-clause-value
unfolding value field
returns-clause-value c =
    c.number_in.ensures.value ∙ rw (c.found.ensures, c.rule_of-width.ensures, whole c)

pub returns-clause-fits : goal.returns-clause-fits
returns-clause-fits c = rw (c.rule_of-width.ensures, whole c) at c.number_in.ensures.fits
