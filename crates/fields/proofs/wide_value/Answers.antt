use Rattle.rules.specs.Fields.{value}
use Rattle.fields.proofs.wide_value.Goals as goal

pub returns : goal.returns
unfolding value
returns c = rw (c.requires.2, ← c.field.ensures) c.wide_in.ensures
