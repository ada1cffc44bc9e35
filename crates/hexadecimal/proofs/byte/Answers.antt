use mathlib.Core.Path.{◌∙◌}
use Rattle.hexadecimal.specs.Hex.{byte_of}
use borrow.Author.Tests.{lt-ltb, le-ltb}
use Rattle.hexadecimal.proofs.byte.Goals as goal

pub returns-then-i-s : goal.returns-then-i-s
unfolding byte_of
returns-then-i-s c = simp (lt-ltb _ _ c.if-i-s.true) (c.unwrap_or.ensures ∙ c.pair.ensures)

pub returns : goal.returns
unfolding byte_of
returns c = simp (le-ltb _ _ c.if-i-s.false)
