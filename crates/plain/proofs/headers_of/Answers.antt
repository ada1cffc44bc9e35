-- Each field is its number.
-- Assumes nothing.
use mathlib.Core.Path.{refl}
use Rattle.plain.specs.Numbers.{headers_at}
use Rattle.plain.proofs.headers_of.Goals as goal

pub returns : goal.returns
unfolding headers_at
returns c = refl
