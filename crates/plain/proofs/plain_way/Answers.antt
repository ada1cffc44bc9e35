-- The scan's way, by numbers.
-- Assumes nothing.
use mathlib.Core.Path.{◌∙◌}
use Rattle.plain.proofs.plain_way.Goals as goal

pub returns : goal.returns
returns c =
    c.numbers_of.ensures ∙ rw c.headers_of.ensures at c.way-w.ensures
