use Rattle.fields.proofs.Widths.{below_word}
use Rattle.fields.proofs.region.Fields.word.Goals as goal

pub overflow_cast-result : goal.overflow_cast-result
overflow_cast-result c = record { fits = below_word _ _ c.number.ensures.fits c.requires.1 }
