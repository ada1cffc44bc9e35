-- The part of a rule that a function of this crate computes.
use Rattle.std.specs.Prelude.{ℕ, ◌+◌, ◌-◌, Bool, ◌&&◌, ltb, leb}
use Rattle.rules.specs.Ring.{outstanding, advance}
use Rattle.rules.specs.declared.Ring.{Ring}

-- what HEAD may be set to
unfoldable pub head_allowed : Ring → ℕ → Bool
head_allowed r new = ltb new r.size && leb (outstanding r + advance r new) (r.size - 1)
