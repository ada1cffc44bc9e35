use Prim.Native.Nat.{◌<◌, ◌+◌, ◌*◌}
use mathlib.Core.Path.{◌≡◌, ◌∙◌}
use lib.ListN.{get_or}
use native.Mathlib.Omega.{arith}
use Rattle.text.specs.Text.{digit_of}
use Rattle.text.proofs.Laws.{value_next, value_past, digits_next, no_digit, no_digit_given, a_digit_given, not_digits, too_large, is_number, value_ends, digits_end}
use Rattle.text.proofs.digits.Goals as goal
use Rattle.text.proofs.digits.Goals.{In_ok-d, After-checked_mul}

pub returns-in_err-d : goal.returns-in_err-d
returns-in_err-d c =
    let a = c.args in
    let n = no_digit_given a.base (get_or a.s.now c.loop-b.b-index 0) c.requires.upper_bound _ c.in_err-d.was (rw c.from.ensures at c.to_digit.ensures.value) in
    c.from_residual.ensures ∙ not_digits a.base a.s.now (c.loop-b.invariant.digits ∙ no_digit a.base c.loop-b.v c.loop-b.b-index a.s.now c.loop-b-test.true n)

-- the digit at hand
digit : (c : In_ok-d) → (digit_of (get_or c.args.s.now c.loop-b.b-index 0) < c.args.base) × (c.in_ok-d.d ≡ digit_of (get_or c.args.s.now c.loop-b.b-index 0))
digit c = a_digit_given c.args.base _ c.requires.upper_bound _ _ c.in_ok-d.was (rw c.from.ensures at c.to_digit.ensures.value)

pub returns-in_err-checked_mul : goal.returns-in_err-checked_mul
returns-in_err-checked_mul c =
    let a = c.args in
    let l = value_past a.base c.loop-b.v c.loop-b.b-index a.s.now c.loop-b-test.true (omega (arith, c.requires.lower_bound)) (omega (arith, rw c.from-in-loop-b.ensures at c.in_err-checked_mul.ensures)) in
    c.from_residual-in_err-checked_mul.ensures ∙ too_large a.base a.s.now (omega (arith, l, c.loop-b.invariant.value))

pub returns-in_err-v : goal.returns-in_err-v
returns-in_err-v c =
    let a = c.args in
    let d = digit (goal.at.returns-in_err-v c).In_ok-d in
    let m = rw c.from-in-loop-b.ensures at c.in_ok-checked_mul.ensures.1 in
    let l = value_past a.base c.loop-b.v c.loop-b.b-index a.s.now c.loop-b-test.true (omega (arith, c.requires.lower_bound)) (omega (arith, c.in_err-v.ensures, c.from-in-loop-b-2.ensures, m, d.1)) in
    c.from_residual-in_err-v.ensures ∙ too_large a.base a.s.now (omega (arith, l, c.loop-b.invariant.value))

pub loop-b-preserved : goal.loop-b-preserved
loop-b-preserved c =
    let a = c.args in
    let s = a.s.now in
    let i = c.loop-b.b-index in
    let d = digit (goal.at.loop-b-preserved c).In_ok-d in
    let m = rw c.from-in-loop-b.ensures at c.in_ok-checked_mul.ensures.1 in
    let e : c.in_ok-v.v ≡ c.loop-b.v * a.base + digit_of (get_or s i 0) = omega (arith, c.in_ok-v.ensures.1, c.from-in-loop-b-2.ensures, m, d.1) in
    record {
      digits = c.loop-b.invariant.digits ∙ digits_next a.base c.loop-b.v i s c.loop-b-test.true d.0;
      value = c.loop-b.invariant.value ∙ value_next a.base c.loop-b.v i s c.loop-b-test.true ∙ rw e;
      fits = omega (arith, c.in_ok-v.ensures);
    }

pub returns : goal.returns
returns c =
    let a = c.args in
    let s = a.s.now in
    is_number a.base c.loop-b.v s (c.loop-b.invariant.digits ∙ digits_end a.base c.loop-b.v c.loop-b.b-index s c.loop-b-test.false) (c.loop-b.invariant.value ∙ value_ends a.base c.loop-b.v c.loop-b.b-index s c.loop-b-test.false) c.loop-b.invariant.fits
