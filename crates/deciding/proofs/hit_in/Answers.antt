-- Slot by slot: a flow that matches is the first, and one that does not leaves what is first to the slots behind it.
-- Assumes nothing.
use mathlib.Core.Path.{sym, ◌∙◌}
use Rattle.deciding.proofs.Search.{search_starts, search_ends, search_past, search_on, search_finds}
use native.Mathlib.Omega.{arith}
use Rattle.deciding.proofs.hit_in.Goals as goal

pub loop-i-init : goal.loop-i-init
loop-i-init c =
    let a = c.all-1.given in
    (record { all = omega (arith, a); slots = omega (arith, c.slots-1.given); live = omega (arith, c.min-n.ensures, a); ends = c.min-end.ensures }, search_starts)

pub overflow_cast-place : goal.overflow_cast-place
overflow_cast-place c = record { fits = omega (arith, (c.shared_slice_known-1.given c.loop-i.i).fits) }

pub returns-then-matches : goal.returns-then-matches
returns-then-matches c =
    let l = c.loop-i.invariant in
    search_finds l.0 l.1 (omega arith) c.if-place-n.true (sym c.matches.ensures ∙ c.if-matches.true)

pub loop-i-preserved-else-matches : goal.loop-i-preserved-else-matches
loop-i-preserved-else-matches c =
    let l = c.loop-i.invariant in
    (l.0, search_on l.0 l.1 (omega arith) c.if-place-n.true (sym c.matches.ensures ∙ c.if-matches.false))

pub loop-i-preserved : goal.loop-i-preserved
loop-i-preserved c =
    let l = c.loop-i.invariant in
    (l.0, search_past l.0 l.1 (omega arith) c.if-place-n.false)

pub returns : goal.returns
returns c =
    let l = c.loop-i.invariant in
    search_ends l.0 l.1 (omega arith)
