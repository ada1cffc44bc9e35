use Rattle.std.proofs.Common.{◌≡◌, ◌≤◌, ◌+◌, ◌-◌, ◌^◌, subst, sym, ap, ◌∙◌, arith}
use Rattle.std.specs.Int.Count.{count_leading_zeros}
use Rattle.std.proofs.lemmas.Nat.{leading_le}
use native.Mathlib.Nat.{pow-le-pow_right}
use lib.Dec.{lit<}
use Rattle.addresses.proofs.Lengths.{length_found, no_length}
use Rattle.addresses.proofs.length_of.Goals as goal

pub overflow_sub-ones : goal.overflow_sub-ones
overflow_sub-ones g c =
    let w = g.A.Address.BITS in
    let k = w - c.leading_ones-length.result in
    let p : 2 ^ k ≤ 2 ^ w = pow-le-pow_right (lit< tt) (omega arith) in
    rw (c.ones.ensures, c.ones-2.ensures, c.BITS.ensures, c.BITS-2.ensures) (omega arith)

pub returns-then-to_u128-ones : goal.returns-then-to_u128-ones
returns-then-to_u128-ones g c =
    let w = g.A.Address.BITS in
    let few : c.leading_ones-length.result ≤ w = rw c.leading_ones-length.ensures (leading_le w _) in
    length_found w _ _ few (rw (c.ones.ensures, c.ones-2.ensures, c.BITS.ensures, c.BITS-2.ensures) at (sym c.to_u128.ensures.value ∙ c.if-to_u128-ones.true))

pub returns-else-to_u128-ones : goal.returns-else-to_u128-ones
returns-else-to_u128-ones g c =
    let w = g.A.Address.BITS in
    rw c.BITS-else-to_u128-ones.ensures
    (no_length w _ _ c.leading_ones-length.ensures
    (λ e. c.if-to_u128-ones.false (c.to_u128.ensures.value ∙ e ∙ sym (rw (c.ones.ensures, c.ones-2.ensures, c.BITS.ensures, c.BITS-2.ensures)))))
