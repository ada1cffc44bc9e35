-- From what a flow command's search found, and what became of the order, to what the command promises of it. The code speaks of the first
-- n places and slots, the rules of the live ones: they are the same.
-- Assumes nothing.
use Prim.Native.Nat.{ℕ, min, ◌+◌, ◌-◌, ◌<◌}
use mathlib.Core.Bool.{Bool, true, false}
use mathlib.Core.Path.{◌≡◌, refl, ap, sym, ◌∙◌}
use mathlib.Core.List.{List}
use native.Mathlib.Omega.{arith}
use lib.ListN.{length, take, length-take}
use borrow.Author.Tests.{ne_eqb}
use Rattle.rules.specs.Answers.{code}
use Rattle.rules.specs.Limits.{max_flows}
use Rattle.rules.specs.Keyed.{holds}
use Rattle.rules.specs.Places.{live}
use Rattle.rules.specs.Rows.{cookie_in, entry_in}
use Rattle.rules.specs.Tables.{cookie_of, live_flows, add_status, held_status}
use Rattle.rules.specs.Engine.{Order, order_added, order_changed, order_deleted}
use Rattle.rules.specs.Switch.{order_in}
use Rattle.rules.specs.declared.FlowEntry.{FlowEntry}
use Rattle.rules.specs.declared.Firsts.{Firsts}
use Rattle.rules.specs.declared.Status.{Status}
use Rattle.rules.specs.declared.Status.TheVariants.{Ok}
use Rattle.rules.proofs.Tables.{add_done}
use Rattle.tables.proofs.Search.{Sought}
use Rattle.tables.proofs.Slots.{take_live}
use Rattle.tables.proofs.InPlace.{map_sought}
use Rattle.carrying.specs.Outcome.{Follows, AddFollowed, ModFollowed, DelFollowed}

-- ---- A status, and what goes by it

module _ {firsts : Firsts} {order : List ℕ} {rule : Status} {after : Order} where
  done : {then : ℕ × Firsts} {before : Order} {order' : List ℕ} → rule ≡ Ok → order_in then.0 then.1 order' ≡ after → Follows then firsts order order' rule before after
  unfolding code
  done ok o = record { order_is = rw ok o; kept = λ z. absurd (z ok) }

  -- an error of a search is the rules' status, which is not OK
  pub refused : {count : ℕ} (e : Status) → (e ≡ rule) × (code e ≡ 0 → ⊥) → Follows (count, firsts) firsts order order rule (order_in count firsts order) after
  unfolding code
  refused e f =
      record { order_is = rw (ne_eqb (code rule) 0 (λ z. f.1 (ap code f.0 ∙ z))) refl; kept = λ z. (refl, refl) }

-- ---- What the search found

-- of the live flows and their order, which are those in the first n places and slots
pub record Found (rows : List (List ℕ)) (order : List ℕ) (firsts : Firsts) (count n at : ℕ) (held : Bool) (k : ℕ) : Type 0 where
  pub order_is : order_in n firsts order ≡ order_in count firsts order
  pub n_is : n ≡ min count max_flows
  pub sought : Sought cookie_of max_flows k n (live_flows count rows) at held

-- all slots of an order that are live are among its first n
same_slots : {n : ℕ} (count : ℕ) (firsts : Firsts) (order : List ℕ) → length order ≡ max_flows → n ≡ min count max_flows → order_in n firsts order ≡ order_in count firsts order
unfolding order_in
same_slots {n} count firsts order long m =
    let e : n ≡ length (take count order) = omega (arith, length-take count order) in
    let o : take n order ≡ take count order = rw e (take_live count order) in
    ap (λ (p : List ℕ). record { places = p; firsts = firsts }) o

pub found : {rows : List (List ℕ)} {order : List ℕ} {firsts : Firsts} {count at k : ℕ} {held : Bool}
    → length order ≡ max_flows → Sought cookie_in max_flows k (min count max_flows) (take count rows) at held → Found rows order firsts count (min count max_flows) at held k
unfolding entry_in live
found {rows} {order} {firsts} {count} long s =
    record {
      order_is = same_slots count firsts order long refl;
      n_is = refl;
      sought = map_sought entry_in cookie_of s;
    }

-- ---- Each command

module _ {rows : List (List ℕ)} {order : List ℕ} {firsts : Firsts} {count n at : ℕ} {firsts' : Firsts} {order' : List ℕ} where
  module _ (e : FlowEntry) where
    pub added : Found rows order firsts count n at false e.cookie → n < max_flows
        → order_in (n + 1) firsts' order' ≡ order_added (live_flows count rows) at e (order_in n firsts order)
        → AddFollowed (n + 1, firsts') firsts count rows order order' e
    added f few o =
        let ok : add_status (holds cookie_of) max_flows e.cookie (live_flows count rows) ≡ Ok =
        add_done cookie_of e.cookie (live_flows count rows) max_flows f.sought.holds_is (omega (arith, f.sought.live)) in
        done ok (o ∙ rw (f.order_is, f.sought.position_is) refl)

    pub modded : Found rows order firsts count n at true e.cookie → length order' ≡ max_flows
        → order_in n firsts' order' ≡ order_changed (live_flows count rows) at e (order_in n firsts order)
        → ModFollowed (count, firsts') firsts count rows order order' e
    unfolding held_status
    modded f long o =
        done (simp f.sought.holds_is)
        (sym (same_slots count firsts' order' long f.n_is)
        ∙ o
        ∙ rw (f.order_is, f.sought.position_is) refl)

  pub deleted : {k : ℕ} → Found rows order firsts count n at true k
      → order_in (n - 1) firsts' order' ≡ order_deleted (live_flows count rows) at (order_in n firsts order)
      → DelFollowed (n - 1, firsts') firsts count rows order order' k
  unfolding held_status
  deleted f o = done (simp f.sought.holds_is) (o ∙ rw (f.order_is, f.sought.position_is) refl)
