-- `outputs::members_in` meets its contract.
-- Assumes nothing.
use mathlib.Core.Path.{refl, sym, ◌∙◌}
use Rattle.outputs.proofs.Outputs.{stands_routing, stands_many, stands_other}
use Rattle.outputs.proofs.members_in.Goals as goal

pub returns-then-is_routing : goal.returns-then-is_routing
returns-then-is_routing c =
    stands_routing _ _ c.requires (rw (← c.type_of-kind.ensures) (sym c.is_routing.ensures ∙ c.if-is_routing.true)) refl c.routed-rewrite.ensures refl

pub returns-then-has_members : goal.returns-then-has_members
returns-then-has_members c =
    stands_many _ _ c.requires (rw (← c.type_of-kind.ensures) (sym c.is_routing.ensures ∙ c.if-is_routing.false))
    (rw (← c.type_of-kind.ensures) (sym c.has_members.ensures ∙ c.if-has_members.true)) c.vlan_of.ensures c.bridged-rewrite.ensures refl

pub returns : goal.returns
returns c =
    stands_other _ _ c.requires (rw (← c.type_of-kind.ensures) (sym c.is_routing.ensures ∙ c.if-is_routing.false))
    (rw (← c.type_of-kind.ensures) (sym c.has_members.ensures ∙ c.if-has_members.false)) c.no_members.ensures
