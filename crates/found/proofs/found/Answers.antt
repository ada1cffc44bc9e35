use native.Mathlib.Omega.{arith}
use Rattle.rules.specs.Region.{fits_width}
use Rattle.tlv.specs.Index.{size_at, found_at}
use borrow.Author.Tests.{lt-ltb, le-ltb, eq-eqb, ne_eqb}
use Rattle.found.proofs.found.Goals as goal

pub returns-then-place-eq0 : goal.returns-then-place-eq0
unfolding found_at
returns-then-place-eq0 c =
    let i = c.requires in
    rw (← i.0.tells _ _ i.1) (simp (lt-ltb _ _ c.if-place-lt8.true, eq-eqb _ _ c.if-place-eq0.true))

pub returns-then-place-lt8 : goal.returns-then-place-lt8
unfolding found_at
returns-then-place-lt8 c =
    let i = c.requires in
    rw (← i.0.tells _ _ i.1) (simp (lt-ltb _ _ c.if-place-lt8.true, ne_eqb _ _ c.if-place-eq0.false))

pub value_size-size-requires : goal.value_size-size-requires
value_size-size-requires c =
    let i = c.requires in
    omega (arith, i.0.counts _ i.1 c.if-place-lt8.false, c.le.ensures)

pub returns-then-width-size : goal.returns-then-width-size
unfolding found_at size_at fits_width
returns-then-width-size c =
    let i = c.requires in
    rw (← i.0.tells _ _ i.1)
    (simp (le-ltb _ _ c.if-place-lt8.false, ← c.le.ensures, ← c.value_size-size.ensures, c.if-width-size.true))

pub returns-else-width-size : goal.returns-else-width-size
unfolding found_at size_at fits_width
returns-else-width-size c =
    let i = c.requires in
    rw (← i.0.tells _ _ i.1)
    (simp (le-ltb _ _ c.if-place-lt8.false, ← c.le.ensures, ← c.value_size-size.ensures, c.if-width-size.false))
