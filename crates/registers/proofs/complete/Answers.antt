use Rattle.std.proofs.Common.{ltb, ◌∙◌}
use Rattle.rules.specs.Limits.{max_credits}
use Rattle.rules.specs.Ring.{complete_effect}
use Rattle.rules.specs.Registers.{command_ring}
use Rattle.registers.proofs.Outcomes.{ring_chosen}
use Rattle.registers.proofs.complete.Goals as goal

pub returns : goal.returns
returns c =
    let r = c.command_ring in
    let d = c.args.d in
    c.with_ring.ensures ∙ rw (c.complete.ensures, r.ensures) (ring_chosen d 0 (ltb (command_ring d).credits max_credits) (complete_effect (command_ring d)))
