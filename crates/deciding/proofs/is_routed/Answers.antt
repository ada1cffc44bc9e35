-- The EtherType and the address, on plain values: f stands in the place, and e is f.
-- Assumes nothing.
use Prim.Native.Nat.{ℕ}
use mathlib.Core.Bool.{Bool, false, ◌&&◌}
use mathlib.Core.Path.{◌≡◌, ◌∙◌}
use lib.Dec.{eqb}
use borrow.Author.Tests.{eq-eqb, ne_eqb}
use Rattle.rules.specs.declared.FlowEntry.{FlowEntry}
use Rattle.deciding.specs.Way.{agrees}
use Rattle.deciding.proofs.is_routed.Goals as goal

module _ (e f : FlowEntry) (type : ℕ) (same : Bool) (u : e ≡ f) where
  another_type : (e.ethertype ≡ type → ⊥) → false ≡ eqb f.ethertype type && same
  another_type n = rw (← u, ne_eqb e.ethertype type n)

  this_type : e.ethertype ≡ type → same ≡ eqb f.ethertype type && same
  this_type n = rw (← u, eq-eqb e.ethertype type n)

pub returns-then-of-h : goal.returns-then-of-h
returns-then-of-h c = another_type _ _ _ _ c.flow-of.ensures c.if-of-h.true

pub returns : goal.returns
unfolding agrees
returns c =
    let same = rw c.flow-e.ensures at c.agree.ensures in
    same ∙ this_type _ _ _ _ c.flow-of.ensures c.if-of-h.false
