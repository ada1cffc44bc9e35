-- REQUEST 2026-05. The plain engine and the device's, from a fresh device and for every list of calls, with the same memory, frames, buffers and
-- lists: "the same statuses, tables (compared by cookie) and copies", and all else that a call tells or leaves; and the device's flows stand in
-- the order in which they decide.
use Rattle.std.specs.Prelude.{ℕ, ◌≡◌, List, [], ◌∷◌, eqb, length}
use Rattle.std.proofs.Math.Option.{Option, none, some}
use Rattle.rules.specs.Choose.{choose}
use Rattle.rules.specs.Engine.{plain, ordered}
use Rattle.rules.specs.Switch.{Switch, Result, step_by, fresh_switch}
use Rattle.rules.specs.declared.FlowEntry.{FlowEntry}
use Rattle.history.specs.Trace.{Call, final}
use Rattle.engines.specs.Kept.{Kept}

-- the flow with a cookie, wherever it stands
unfoldable pub with_cookie : ℕ → List FlowEntry → Option FlowEntry
with_cookie k [] = none
with_cookie k (e ∷ es) = choose (eqb e.cookie k) (some e) (with_cookie k es)

-- "compared by cookie": as many flows, and the same one, or none, at every cookie
pub record SameFlows (l l' : List FlowEntry) : Type 0 where
  pub number : length l ≡ length l'
  pub at : (k : ℕ) → with_cookie k l ≡ with_cookie k l'

-- what a call answers and tells (the completion with its status, the vectors, the number of outputs among it), what it leaves in memory, in the
-- buffer (the record) and in the list (the outputs), and the switch after it
pub record SameResult (a b : Result) : Type 0 where
  pub answer_is : a.answer ≡ b.answer
  pub told_is : a.told ≡ b.told
  pub memory_is : a.memory ≡ b.memory
  pub buffer_is : a.buffer ≡ b.buffer
  pub list_is : a.list ≡ b.list
  pub registers_are : a.switch.registers ≡ b.switch.registers
  pub groups_are : a.switch.tables.groups ≡ b.switch.tables.groups
  pub flows_are : SameFlows a.switch.tables.flows b.switch.tables.flows

-- the same calls on two switches, one by the plain engine and one by the device's, each call on what the one before it left
abbrev pub SameCalls : Switch → Switch → List Call → Type 0
SameCalls s s' [] = Unit {0}
SameCalls s s' (c ∷ cs) =
    let a = step_by plain s c.borrowed c.request in
    let b = step_by ordered s' c.borrowed c.request in
    SameResult a b × SameCalls a.switch b.switch cs

pub record EnginesAgree (ports id : ℕ) (calls : List Call) : Type 0 where
  pub same : SameCalls (fresh_switch ports id) (fresh_switch ports id) calls
  pub in_order : Kept (final (fresh_switch ports id) calls).tables.flows (final (fresh_switch ports id) calls).order
