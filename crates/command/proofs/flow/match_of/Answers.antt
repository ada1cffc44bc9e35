use Rattle.rules.specs.Decode.{match_of}
use borrow.Author.Tests.{eq-eqb, ne_eqb}
use Rattle.command.proofs.flow.match_of.Goals as goal

pub returns-then-t-eq0 : goal.returns-then-t-eq0
unfolding match_of
returns-then-t-eq0 c = simp (eq-eqb _ _ c.if-t-eq0.true, ← c.word.ensures, ← c.word-then-t-eq0.ensures)

pub returns-then-t-eq10 : goal.returns-then-t-eq10
unfolding match_of
returns-then-t-eq10 c =
    simp (
      ne_eqb _ _ c.if-t-eq0.false,
      eq-eqb _ _ c.if-t-eq10.true,
      ← c.word-then-t-eq10.ensures,
      ← c.be16.ensures,
      ← c.be16-then-t-eq10.ensures,
    )

pub returns-then-t-eq20 : goal.returns-then-t-eq20
unfolding match_of
returns-then-t-eq20 c =
    simp (
      ne_eqb _ _ c.if-t-eq0.false,
      ne_eqb _ _ c.if-t-eq10.false,
      eq-eqb _ _ c.if-t-eq20.true,
      ← c.requires,
      ← c.word-then-t-eq20.ensures,
      ← c.value.ensures,
      ← c.be16-then-t-eq20.ensures,
    )

pub returns-then-t-eq30 : goal.returns-then-t-eq30
unfolding match_of
returns-then-t-eq30 c =
    simp (
      ne_eqb _ _ c.if-t-eq0.false,
      ne_eqb _ _ c.if-t-eq10.false,
      ne_eqb _ _ c.if-t-eq20.false,
      eq-eqb _ _ c.if-t-eq30.true,
      ← c.requires,
    )
    c.route_of.ensures

pub returns-else-t-eq30 : goal.returns-else-t-eq30
unfolding match_of
returns-else-t-eq30 c =
    simp (
      ne_eqb _ _ c.if-t-eq0.false,
      ne_eqb _ _ c.if-t-eq10.false,
      ne_eqb _ _ c.if-t-eq20.false,
      ne_eqb _ _ c.if-t-eq30.false,
    )
    c.bridging_of.ensures
