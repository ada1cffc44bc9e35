-- The MAC and the VLAN, on plain values: f stands in the place, and what was read of it is f.
-- Assumes nothing.
use Prim.Native.Nat.{ℕ}
use mathlib.Core.Bool.{Bool, true, false, not, ◌&&◌, ◌||◌}
use mathlib.Core.Path.{◌≡◌, refl}
use lib.Dec.{eqb}
use borrow.Author.Tests.{eq-eqb, ne_eqb}
use Rattle.rules.specs.declared.FlowEntry.{FlowEntry}
use Rattle.deciding.proofs.is_bridged.Goals as goal

-- the VLAN is asked last, where the MAC is the frame's or none is given; else nothing is
alone : (a b : Bool) → a ≡ a && (b || true)
alone true true = refl
alone true false = refl
alone false b = refl

asked : (a : Bool) → a ≡ a && true
asked true = refl
asked false = refl

settled : (a : Bool) → false ≡ a && false
settled true = refl
settled false = refl

module _ (e o f : FlowEntry) (vlan mac : ℕ) (u : e ≡ f) (v : o ≡ f) where
  this_mac : e.dst_mac ≡ mac → eqb o.vlan_id vlan ≡ eqb f.vlan_id vlan && (not f.has_mac || eqb f.dst_mac mac)
  this_mac h = rw v (simp (eq-eqb f.dst_mac mac (rw u at h)) (alone (eqb f.vlan_id vlan) (not f.has_mac)))

  module _ (n : e.dst_mac ≡ mac → ⊥) where
    other_mac : o.has_mac ≡ true → false ≡ eqb f.vlan_id vlan && (not f.has_mac || eqb f.dst_mac mac)
    other_mac h = simp (ne_eqb f.dst_mac mac (rw u at n), rw v at h) (settled (eqb f.vlan_id vlan))

    any_mac : (g : FlowEntry) → g ≡ f → o.has_mac ≡ false → eqb g.vlan_id vlan ≡ eqb f.vlan_id vlan && (not f.has_mac || eqb f.dst_mac mac)
    any_mac g w h = rw w (simp (ne_eqb f.dst_mac mac (rw u at n), rw v at h) (asked (eqb f.vlan_id vlan)))

pub returns-then-e-h : goal.returns-then-e-h
returns-then-e-h c =
    this_mac _ _ _ _ _ c.flow-e.ensures c.flow-same.ensures c.if-e-h.true

pub returns-then-other : goal.returns-then-other
returns-then-other c =
    other_mac _ _ _ _ _ c.flow-e.ensures c.flow-other.ensures c.if-e-h.false c.if-other.true

pub returns : goal.returns
returns c =
    any_mac _ _ _ _ _ c.flow-e.ensures c.flow-other.ensures c.if-e-h.false _ c.flow-any.ensures c.if-other.false
