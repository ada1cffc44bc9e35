-- A taken number fits what its access reaches.
-- Assumes nothing.
use Rattle.std.proofs.Common.{◌≡◌, ℕ, ◌+◌, ◌-◌, ◌%◌, ◌^◌, ◌<◌, Bool, true, false, refl, arith}
use Rattle.std.specs.Prelude.{Option, Some, None}
use Rattle.rules.specs.Choose.{choose}
use Rattle.rules.specs.Registers.{register_at, is_wide, upper_of, narrow_at, covered_by, wide_at, access, taken}
use Rattle.rules.specs.declared.Register.{Register}
use Rattle.rules.specs.declared.Access.TheVariants.{NotAllowed, Reserved, Whole, Lower, Upper}
use Rattle.access.specs.Shapes.{is_narrow, is_eight}
use Rattle.access.proofs.Reach.{access_narrow, access_eight, access_none, narrow_four}
use Rattle.registers.specs.Fits.{Bounded}
use Rattle.rules.proofs.Cases.{true_or_false}

-- 4 bytes reach a register of 4, or half of one of 8
upper_fits : (r : Register) (v : ℕ) (wide : Bool) → is_wide r ≡ wide → v < 2 ^ 32 → Bounded (choose wide (Upper r) Reserved) v
unfolding Bounded
upper_fits r v true e h = (e, h)
upper_fits r v false e h = tt

lower_fits : (r : Register) (v : ℕ) (wide : Bool) → v < 2 ^ 32 → Bounded (choose wide (Lower r) (Whole r)) v
unfolding Bounded
lower_fits r v true h = h
lower_fits r v false h = λ _. h

narrow_fits : (here before : Option Register) (v : ℕ) → v < 2 ^ 32 → Bounded (narrow_at here before) v
unfolding Bounded narrow_at upper_of
narrow_fits None None v h = tt
narrow_fits None (Some r) v h = upper_fits r v (is_wide r) refl h
narrow_fits (Some r) before v h = lower_fits r v (is_wide r) h

-- 8 bytes reach a register of 8
whole_fits : (r : Register) (v : ℕ) (wide : Bool) → is_wide r ≡ wide → Bounded (choose wide (Whole r) NotAllowed) v
unfolding Bounded
whole_fits r v true e = λ n. true_or_false (is_wide r) e n
whole_fits r v false e = tt

wide_fits : (here after : Option Register) (v : ℕ) → Bounded (wide_at here after) v
unfolding Bounded wide_at covered_by
wide_fits None None v = tt
wide_fits None (Some r) v = tt
wide_fits (Some r) after v = whole_fits r v (is_wide r) refl

taken_fits_at : (offset width v : ℕ) (n e : Bool) → is_narrow offset width ≡ n → is_eight offset width ≡ e → Bounded (access offset width) (taken width v)
unfolding Bounded taken
taken_fits_at offset width v true e p q =
    rw (access_narrow offset width p, narrow_four offset width p) (narrow_fits (register_at offset) (register_at (offset - 4)) (v % 2 ^ 32) (omega arith))
taken_fits_at offset width v false true p q =
    rw (access_eight offset width p q) (wide_fits (register_at offset) (register_at (offset + 4)) (taken width v))
taken_fits_at offset width v false false p q = rw (access_none offset width p q) tt

pub taken_fits : (offset width v : ℕ) → Bounded (access offset width) (taken width v)
taken_fits offset width v = taken_fits_at offset width v (is_narrow offset width) (is_eight offset width) refl refl
