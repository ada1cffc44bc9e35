-- What the order's parts come to, as the rules have them: the slots, and where tables begin.
-- Assumes nothing.
use Prim.Native.Nat.{ℕ, ◌+◌, ◌-◌}
use mathlib.Core.Bool.{true, false}
use mathlib.Core.Path.{◌≡◌, ap, sym, ◌∙◌}
use mathlib.Core.List.{List, [], map}
use lib.ListN.{length, take, get_or, get_or-map}
use Rattle.rules.specs.Keyed.{insert_at, without}
use Rattle.rules.specs.Rows.{entry_in}
use Rattle.rules.specs.Engine.{Order, flow_at, slot_of, own_slot, raise, lower, firsts_with, firsts_without, with_place, without_place, same_rank, order_added, order_changed, order_deleted}
use Rattle.rules.specs.Switch.{order_in}
use Rattle.rules.specs.declared.FlowEntry.{FlowEntry}
use Rattle.rules.specs.declared.Firsts.{Firsts}

abbrev order : List ℕ → Firsts → Order
order places firsts = record { places = places; firsts = firsts }

-- two orders with the same parts
same_parts : {p q : List ℕ} {f g : Firsts} → p ≡ q → f ≡ g → order p f ≡ order q g
same_parts {p} {q} {f} {g} e h = ap (λ (l : List ℕ). order l f) e ∙ ap (λ (x : Firsts). order q x) h

-- on the live flows in these rows, and an order of as many
module _ (rows : List (List ℕ)) (at : ℕ) where
  abbrev flows : List FlowEntry
  flows = map entry_in rows

  abbrev n : ℕ
  n = length rows

  pub put_in : (e : FlowEntry) (firsts firsts' : Firsts) (bytes bytes' : List ℕ)
      → take (n + 1) bytes' ≡ insert_at (slot_of flows (take n bytes) e) at (map (raise at) (take n bytes))
      → firsts' ≡ firsts_with e.table firsts
      → order_in (n + 1) firsts' bytes' ≡ order_added flows at e (order_in n firsts bytes)
  unfolding order_in order_added
  put_in e firsts firsts' bytes bytes' o f = same_parts o f

  -- the flow in the place is its row's
  module _ {old : FlowEntry} (is : old ≡ entry_in (get_or rows at [])) where
    there : old ≡ flow_at flows at
    there = is ∙ sym (get_or-map entry_in rows at [])

    left : (firsts : Firsts) → firsts_without old.table firsts ≡ firsts_without (flow_at flows at).table firsts
    left firsts = ap (λ (x : FlowEntry). firsts_without x.table firsts) there

    ranks : (e : FlowEntry) → same_rank (flow_at flows at) e ≡ same_rank old e
    ranks e = ap (λ (x : FlowEntry). same_rank x e) (sym there)

    module _ (firsts : Firsts) (bytes : List ℕ) where
      pub taken_out : (firsts' : Firsts) (bytes' : List ℕ)
          → take (n - 1) bytes' ≡ map (lower at) (without (own_slot flows (take n bytes) at) (take n bytes))
          → firsts' ≡ firsts_without old.table firsts
          → order_in (n - 1) firsts' bytes' ≡ order_deleted flows at (order_in n firsts bytes)
      unfolding order_in order_deleted without_place
      taken_out firsts' bytes' o f = same_parts o (f ∙ left firsts)

      module _ (e : FlowEntry) where
        pub same_rank_lem : same_rank old e ≡ true → order_in n firsts bytes ≡ order_changed flows at e (order_in n firsts bytes)
        unfolding order_changed
        same_rank_lem t = rw (ranks e ∙ t)

        pub new_rank : {between : Firsts} (firsts' : Firsts) (bytes' : List ℕ) → same_rank old e ≡ false
            → take n bytes' ≡ insert_at (slot_of flows (without (own_slot flows (take n bytes) at) (take n bytes)) e) at (without (own_slot flows (take n bytes) at) (take n bytes))
            → between ≡ firsts_without old.table firsts → firsts' ≡ firsts_with e.table between
            → order_in n firsts' bytes' ≡ order_changed flows at e (order_in n firsts bytes)
        unfolding order_in order_changed with_place without_place
        new_rank firsts' bytes' t o w f = rw (ranks e ∙ t) (same_parts o (f ∙ ap (firsts_with e.table) (w ∙ left firsts)))
