use Rattle.std.proofs.Common.{ap, ◌∙◌}
use Rattle.std.specs.Result.{result_ok}
use Rattle.command.specs.Answer.{lows_of}
use Rattle.rules.specs.Decode.{members_of}
use Rattle.rules.specs.Members.{pad}
use borrow.Author.Tests.{eq-eqb, ne_eqb}
use Rattle.command.proofs.group.members_of.Goals as goal

pub returns-then-t-eq0 : goal.returns-then-t-eq0
unfolding lows_of pad
returns-then-t-eq0 c = simp (← c.type_of-t.ensures, eq-eqb _ _ c.if-t-eq0.true)

pub returns-then-is_routing : goal.returns-then-is_routing
unfolding lows_of members_of pad
returns-then-is_routing c =
    simp (
      ← c.type_of-t.ensures,
      ne_eqb _ _ c.if-t-eq0.false,
      ← c.is_routing.ensures,
      c.if-is_routing.true,
      ← c.word.ensures,
      ← c.low_of.ensures,
    )

pub returns : goal.returns
unfolding lows_of members_of
returns c =
    let r = rw (c.value.ensures, c.nest.ensures, c.header.ensures, c.vlan_of.ensures) at c.read.ensures in
    simp (← c.type_of-t.ensures, ne_eqb _ _ c.if-t-eq0.false, ← c.is_routing.ensures, c.if-is_routing.false) (c.ok.ensures.value ∙ ap result_ok r)
