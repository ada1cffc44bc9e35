use mathlib.Core.Path.{sym, ◌∙◌}
use Rattle.rules.specs.Registers.{link_effect}
use Rattle.ports.proofs.Bitmaps.{one_shifted, set_below, clear_room}
use Rattle.ports.proofs.links_after.Goals as goal

pub returns-then-up : goal.returns-then-up
unfolding link_effect
returns-then-up c = rw (← c.bit.ensures, c.if-bit.true, c.if-up.true)

pub overflow_sub-result : goal.overflow_sub-result
overflow_sub-result c =
    let a = c.args in
    rw (one_shifted a.port c.requires) (set_below _ _ (sym c.bit.ensures ∙ c.if-bit.true))

pub returns-then-bit : goal.returns-then-bit
unfolding link_effect
returns-then-bit c = rw (one_shifted c.args.port c.requires, ← c.bit.ensures, c.if-bit.true, c.if-up.false)

pub overflow_add-result : goal.overflow_add-result
overflow_add-result c =
    rw (one_shifted c.args.port c.requires) (record { fits = clear_room c.args.port c.args.links c.requires c.ranges.links.fits (sym c.bit.ensures ∙ c.if-bit.false) })

pub returns-then-up-2 : goal.returns-then-up-2
unfolding link_effect
returns-then-up-2 c = rw (one_shifted c.args.port c.requires, ← c.bit.ensures, c.if-bit.false, c.if-up-2.true)

pub returns : goal.returns
unfolding link_effect
returns c = rw (← c.bit.ensures, c.if-bit.false, c.if-up-2.false)
