-- What carrying a payload out comes to, on tables whose flows are kept in the order in which they decide.
use Rattle.std.specs.Prelude.{ℕ, ◌≡◌, List, eqb, Result}
use Rattle.rules.specs.Choose.{choose}
use Rattle.rules.specs.Answers.{code}
use Rattle.rules.specs.Limits.{max_flows}
use Rattle.rules.specs.Keyed.{holds, position}
use Rattle.rules.specs.Tables.{cookie_of, live_flows, add_status, held_status, tables_of, carry_out}
use Rattle.rules.specs.Engine.{Order, ordered, order_added, order_changed, order_deleted}
use Rattle.rules.specs.Switch.{Storage, order_in, order_by}
use Rattle.rules.specs.declared.FlowEntry.{FlowEntry}
use Rattle.rules.specs.declared.Counts.{Counts}
use Rattle.rules.specs.declared.Firsts.{Firsts}
use Rattle.rules.specs.declared.Status.{Status}
use Rattle.rules.specs.declared.Status.TheVariants.{Ok}
use Rattle.rules.specs.declared.Decoding.{Decoding}
use Rattle.std.specs.Result.{result_unwrap_or}
use Rattle.tables.specs.Commands.{status_of}

-- Of a flow command with this status, and the number of live flows and the first slots after it: the order, of as many flows as are then
-- live, is what the rules make of the one before
pub record Follows (then : ℕ × Firsts) (firsts : Firsts) (order order' : List ℕ) (rule : Status) (before after : Order) : Type 0 where
  pub order_is : order_in then.0 then.1 order' ≡ choose (eqb (code rule) 0) after before
  -- a status other than OK leaves every byte of it
  pub kept : (rule ≡ Ok → ⊥) → (then.1 ≡ firsts) × (order' ≡ order)

-- the same of each command, on the flows in the first places of these rows, by the cookie's place among them
module _ (then : ℕ × Firsts) (firsts : Firsts) (count : ℕ) (rows : List (List ℕ)) (order order' : List ℕ) where
  abbrev pub AddFollowed : FlowEntry → Type 0
  AddFollowed e =
      let flows = live_flows count rows in
      let o = order_in count firsts order in
      Follows then firsts order order' (add_status (holds cookie_of) max_flows e.cookie flows) o (order_added flows (position cookie_of e.cookie flows) e o)

  abbrev pub ModFollowed : FlowEntry → Type 0
  ModFollowed e =
      let flows = live_flows count rows in
      let o = order_in count firsts order in
      Follows then firsts order order' (held_status (holds cookie_of) e.cookie flows) o (order_changed flows (position cookie_of e.cookie flows) e o)

  abbrev pub DelFollowed : ℕ → Type 0
  DelFollowed k =
      let flows = live_flows count rows in
      let o = order_in count firsts order in
      Follows then firsts order order' (held_status (holds cookie_of) k flows) o (order_deleted flows (position cookie_of k flows) o)

-- Of a payload on what the counts, the first slots and the arrays a hold: the rules' status, and their tables and order in the arrays a'
pub record Carried (status : Status) (then : Counts × Firsts) (counts : Counts) (firsts : Firsts) (a a' : Storage) (d : Decoding) : Type 0 where
  pub status_is : status ≡ (carry_out (tables_of counts a.arrays) d).status
  pub tables_are : tables_of then.0 a'.arrays ≡ (carry_out (tables_of counts a.arrays) d).tables
  pub order_is : order_in then.0.flows then.1 a'.order
      ≡ order_by ordered (tables_of counts a.arrays) d (order_in counts.flows firsts a.order)
  -- a status other than OK leaves counts, first slots and every number of the arrays, those of free places too
  pub kept : (status ≡ Ok → ⊥) → (then.0 ≡ counts) × (then.1 ≡ firsts) × (a' ≡ a)

abbrev pub Carries : Result (Counts × Firsts) Status → Counts → Firsts → Storage → Storage → Decoding → Type 0
Carries r counts firsts a a' d = Carried (status_of r) (result_unwrap_or r (counts, firsts)) counts firsts a a' d
