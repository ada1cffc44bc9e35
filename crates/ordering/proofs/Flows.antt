-- The live flows in the first places of an array of rows, as the order's rules read them.
-- Assumes nothing.
use Prim.Native.Nat.{ℕ, ◌-◌, ◌<◌, ◌≤◌, min}
use mathlib.Core.Bool.{Bool, false}
use mathlib.Core.Path.{◌≡◌}
use mathlib.Core.List.{List, [], map}
use native.Mathlib.Omega.{arith}
use borrow.Author.Tests.{lt-ltb, le-ltb}
use lib.ListN.{length, get_or, length-map, get_or-map}
use Rattle.rules.specs.Rows.{entry_in}
use Rattle.rules.specs.Engine.{precedes, flow_at, is_before, slot_of, own_slot}
use Rattle.rules.specs.declared.FlowEntry.{FlowEntry}
use Rattle.rules.proofs.Cases.{by_lt}

module _ (rows : List (List ℕ)) where
  -- the flow in a live place is its row's
  live_at : (i : ℕ) → i < length rows → flow_at (map entry_in rows) i ≡ entry_in (get_or rows i [])
  live_at i h = get_or-map entry_in rows i []

  module _ (i : ℕ) (e : FlowEntry) where
    pub not_live : length rows ≤ i → false ≡ is_before (map entry_in rows) e i
    unfolding is_before
    not_live h = simp (length-map rows entry_in, le-ltb _ _ h)

    pub is_live : {f : FlowEntry} {b : Bool} → i < length rows → f ≡ entry_in (get_or rows i []) → b ≡ precedes f e → b ≡ is_before (map entry_in rows) e i
    unfolding is_before
    is_live h is p = simp (length-map rows entry_in, lt-ltb _ _ h, live_at i h, ← is) p

  -- the slot of the flow in a place, where the search ends among the slots, or behind them
  pub own_found : (at : ℕ) (order : List ℕ) (s : ℕ) {f : FlowEntry} → at < length rows → 0 < length order → f ≡ entry_in (get_or rows at [])
      → s ≡ slot_of (map entry_in rows) order f → min s (length order - 1) ≡ own_slot (map entry_in rows) order at
  unfolding own_slot
  own_found at order s h z is found =
      rw (live_at at h, ← is, ← found)
      (by_lt s (length order) (λ b p. simp p (omega arith)) (λ b p. simp p (omega arith)))
