-- What an access reaches, by its shape.
-- Assumes nothing.
use Prim.Native.Nat.{ℕ, ◌+◌, ◌-◌, ◌%◌, ◌≤◌}
use mathlib.Core.Path.{◌≡◌}
use mathlib.Core.Bool.{true, false, ◌&&◌}
use lib.Dec.{leb, eqb}
use borrow.Author.Tests.{leb-true}
use Rattle.rules.specs.Registers.{register_at, narrow_at, wide_at, access}
use Rattle.rules.specs.declared.Access.TheVariants.{NotAllowed}
use Rattle.access.specs.Shapes.{is_narrow, is_eight}
use Rattle.rules.proofs.Cases.{and_left, and_right}

module _ (offset width : ℕ) where
  pub access_narrow : is_narrow offset width ≡ true → access offset width ≡ narrow_at (register_at offset) (register_at (offset - 4))
  unfolding access is_narrow
  access_narrow e = rw e

  pub access_eight : is_narrow offset width ≡ false → is_eight offset width ≡ true → access offset width ≡ wide_at (register_at offset) (register_at (offset + 4))
  unfolding access is_narrow is_eight
  access_eight e f = rw (e, f)

  pub access_none : is_narrow offset width ≡ false → is_eight offset width ≡ false → access offset width ≡ NotAllowed
  unfolding access is_narrow is_eight
  access_none e f = rw (e, f)

  pub eight_inside : is_eight offset width ≡ true → offset + 8 ≤ 0x2000
  unfolding is_eight
  eight_inside e = leb-true _ _ (and_right (eqb width 8 && eqb (offset % 8) 0) _ e)

  pub narrow_four : is_narrow offset width ≡ true → eqb width 4 ≡ true
  unfolding is_narrow
  narrow_four e = and_left _ (eqb (offset % 4) 0) (and_left _ (leb (offset + 4) 0x2000) e)
