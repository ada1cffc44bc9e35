use Rattle.fields.proofs.Widths.{below_half}
use Rattle.fields.proofs.region.Fields.half.Goals as goal

pub overflow_cast-result : goal.overflow_cast-result
overflow_cast-result c = record { fits = below_half _ _ c.number.ensures.fits c.requires.1 }
