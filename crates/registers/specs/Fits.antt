-- What a write takes to a register: the number that reaches it, and that it fits.
use Rattle.std.specs.Prelude.{◌≡◌, ℕ, ◌^◌, ◌<◌, true, false}
use Rattle.rules.specs.Registers.{is_wide, joined}
use Rattle.rules.specs.declared.Registers.{Registers}
use Rattle.rules.specs.declared.Access.{Access}
use Rattle.rules.specs.declared.Access.TheVariants.{NotAllowed, Reserved, Whole, Lower, Upper}

-- the number fits what it is written to: 32 bits for a register of 4 bytes and for a half of one of 8
unfoldable pub Bounded : Access → ℕ → Type 0
Bounded NotAllowed v = Unit {0}
Bounded Reserved v = Unit {0}
Bounded (Whole r) v = is_wide r ≡ false → v < 2 ^ 32
Bounded (Lower r) v = v < 2 ^ 32
Bounded (Upper r) v = (is_wide r ≡ true) × (v < 2 ^ 32)

-- the number that reaches a register
unfoldable pub number_for : Registers → Access → ℕ → ℕ
number_for d NotAllowed v = v
number_for d Reserved v = v
number_for d (Whole r) v = v
number_for d (Lower r) v = v
number_for d (Upper r) v = joined d r v
