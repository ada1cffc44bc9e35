-- One call by the plain engine and by the device's, on switches that are alike, comes to the same and leaves them alike: statuses by what stands
-- at a cookie, tables by the laws of Unordered, the order by the law that it follows its flows, and a frame's outputs by SameWay.
-- Assumes nothing.
use Prim.Native.Nat.{ℕ}
use mathlib.Core.Path.{◌≡◌, refl, ap, ◌∙◌}
use mathlib.Core.List.{List}
use lib.Dec.{eqb}
use borrow.Author.Tests.{eqb-true}
use Rattle.rules.specs.Limits.{max_flows}
use Rattle.rules.specs.Answers.{code}
use Rattle.rules.specs.Registers.{Written, write}
use Rattle.rules.specs.Descriptor.{Fetched}
use Rattle.rules.specs.Descriptor.Fetched.{Faulty, Payload}
use Rattle.rules.specs.Decode.{decode}
use Rattle.rules.specs.Tables.{Tables, cookie_of, empty_tables, flow_entry, by_cookie, add_status, held_status, with_flows, with_groups, command_status, command_status_in, command_effect_in, decoded_status, decoded_status_in, decoded_effect, decoded_effect_in, executed, carry_out_in, execute_in}
use Rattle.rules.specs.Frame.{Output, outputs}
use Rattle.rules.specs.Engine.{Order, no_order, unordered, plain, ordered, decides_best, decides_first}
use Rattle.rules.specs.Switch.{Switch, Borrowed, Result, Carried, unchanged, unless_refused, read_effect, write_effect, linked, framed, headed, followed, order_by, carry_by, carried_slot_by, slot_record_by, process_refusal_by, process_writes_by, process_effect_by, refusal_by, effect_by, step_by, fresh_switch}
use Rattle.rules.specs.declared.Terms.{Terms}
use Rattle.rules.specs.declared.Command.{Command}
use Rattle.rules.specs.declared.Command.TheVariants.{FlowAdd, FlowMod, FlowDel, GroupAdd, GroupMod, GroupDel}
use Rattle.std.specs.Prelude.{Result as Either, Ok as Carry, Err as Refused}
use Rattle.rules.specs.declared.Status.{Status}
use Rattle.rules.specs.declared.Request.{Request}
use Rattle.rules.specs.declared.Request.TheVariants.{Read, Write, Link, Process, Frame, Header}
use Rattle.rules.proofs.Cases.{by_test}
use Rattle.rules.proofs.Tables.{Good, empty_good, add_ok, cookie_kept, execute_good}
use Rattle.engines.specs.Claim.{SameFlows, SameResult}
use Rattle.engines.specs.Kept.{Kept}
use Rattle.engines.proofs.Unordered.{Distinct, stands_same, same_added, same_changed, same_deleted, distinct_added, distinct_changed, distinct_deleted}
use Rattle.engines.proofs.SameWay.{outputs_same}
use Rattle.engines.proofs.Follows.{kept_empty, held_ok, kept_after}

-- tables of both engines, and the order that the device's keeps
pub record AlikeTables (t t' : Tables) (o : Order) : Type 0 where
  pub groups_are : t.groups ≡ t'.groups
  pub flows_are : SameFlows t.flows t'.flows
  pub distinct : Distinct t.flows
  pub kept : Kept t'.flows o
  pub good : Good t'

-- what a slot comes to
pub record AlikeCarried (a b : Carried) : Type 0 where
  pub status_is : a.status ≡ b.status
  pub payload_is : a.payload ≡ b.payload
  pub alike : AlikeTables a.tables b.tables b.order

pub record Alike (s s' : Switch) : Type 0 where
  pub registers_are : s.registers ≡ s'.registers
  pub tables_are : AlikeTables s.tables s'.tables s'.order

pub record Agree (a b : Result) : Type 0 where
  pub same : SameResult a b
  pub alike : Alike a.switch b.switch

agree : (a b : Result) → a.answer ≡ b.answer → a.told ≡ b.told → a.memory ≡ b.memory → a.buffer ≡ b.buffer → a.list ≡ b.list
    → Alike a.switch b.switch → Agree a b
agree a b answer told memory buffer list h =
    record {
      same = record {
        answer_is = answer;
        told_is = told;
        memory_is = memory;
        buffer_is = buffer;
        list_is = list;
        registers_are = h.registers_are;
        groups_are = h.tables_are.groups_are;
        flows_are = h.tables_are.flows_are;
      };
      alike = h;
    }

-- ---- Statuses

command_status_lem : (t t' : Tables) (o : Order) → AlikeTables t t' o → (c : Command) → command_status_in unordered t c ≡ command_status_in by_cookie t' c
unfolding command_status_in add_status held_status
command_status_lem t t' o h (FlowAdd f) = rw (stands_same h.flows_are h.good.flows_rise f.cookie, h.flows_are.number) refl
command_status_lem t t' o h (FlowMod f) = rw (stands_same h.flows_are h.good.flows_rise f.cookie) refl
command_status_lem t t' o h (FlowDel k) = rw (stands_same h.flows_are h.good.flows_rise k) refl
command_status_lem t t' o h (GroupAdd g) = rw h.groups_are refl
command_status_lem t t' o h (GroupMod g) = rw h.groups_are refl
command_status_lem t t' o h (GroupDel k) = rw h.groups_are refl

decoded_status_lem : (t t' : Tables) (o : Order) → AlikeTables t t' o → (w : Either Command Status) → decoded_status_in unordered t w ≡ decoded_status_in by_cookie t' w
unfolding decoded_status_in
decoded_status_lem t t' o h (Carry c) = command_status_lem t t' o h c
decoded_status_lem t t' o h (Refused e) = refl

empty_alike : AlikeTables empty_tables empty_tables no_order
unfolding empty_tables
empty_alike =
    record { groups_are = refl; flows_are = record { number = refl; at = λ k. refl }; distinct = tt; kept = kept_empty; good = empty_good }

-- ---- Commands

module _ (t t' : Tables) (o : Order) (h : AlikeTables t t' o) where
  command_groups : (c : Command) (m : List ℕ) → (command_effect_in unordered t c m).groups ≡ (command_effect_in by_cookie t' c m).groups
  unfolding command_effect_in with_flows with_groups
  command_groups (FlowAdd f) m = h.groups_are
  command_groups (FlowMod f) m = h.groups_are
  command_groups (FlowDel k) m = h.groups_are
  command_groups (GroupAdd g) m = rw h.groups_are refl
  command_groups (GroupMod g) m = rw h.groups_are refl
  command_groups (GroupDel k) m = rw h.groups_are refl

  -- what a command comes to when it is OK
  command_flows : (c : Command) (m : List ℕ) → code (command_status t' c) ≡ 0
      → SameFlows (command_effect_in unordered t c m).flows (command_effect_in by_cookie t' c m).flows × Distinct (command_effect_in unordered t c m).flows
  unfolding command_status_in command_effect_in with_flows with_groups
  command_flows (FlowAdd f) m z =
      let a = rw (← cookie_kept f) at (add_ok cookie_of f.cookie t'.flows max_flows z).0 in (
        same_added h.flows_are h.good.flows_rise (flow_entry f) a,
        distinct_added (flow_entry f) t.flows (stands_same h.flows_are h.good.flows_rise (flow_entry f).cookie ∙ a) h.distinct,
      )
  command_flows (FlowMod f) m z =
      (same_changed h.flows_are h.good.flows_rise (flow_entry f), distinct_changed (flow_entry f) t.flows h.distinct)
  command_flows (FlowDel k) m z = (
    same_deleted h.flows_are h.good.flows_rise k h.distinct (held_ok k t'.flows z),
    distinct_deleted k t.flows h.distinct,
  )
  command_flows (GroupAdd g) m z = (h.flows_are, h.distinct)
  command_flows (GroupMod g) m z = (h.flows_are, h.distinct)
  command_flows (GroupDel k) m z = (h.flows_are, h.distinct)

  decoded_alike : (w : Either Command Status) (m : List ℕ) → code (decoded_status t' w) ≡ 0 → Good (decoded_effect t' w m)
      → AlikeTables (decoded_effect_in unordered t w m) (decoded_effect_in by_cookie t' w m) (followed ordered t'.flows w o)
  unfolding decoded_status_in decoded_effect_in followed
  decoded_alike (Carry c) m z g =
      record {
        groups_are = command_groups c m;
        flows_are = (command_flows c m z).0;
        distinct = (command_flows c m z).1;
        kept = kept_after t' c m o h.good h.kept z;
        good = g;
      }
  decoded_alike (Refused e) m z g = h

-- ---- A slot carried out

carry_alike : (terms : Terms) (t t' : Tables) (o o' : Order) (f : Fetched) → AlikeTables t t' o'
    → AlikeCarried (carry_by plain terms t o f) (carry_by ordered terms t' o' f)
unfolding carry_by execute_in carry_out_in executed order_by
carry_alike terms t t' o o' (Faulty e) h = record { status_is = refl; payload_is = refl; alike = h }
carry_alike terms t t' o o' (Payload p) h =
    let d = decode terms p in
    let e = decoded_status_lem t t' o' h d.what in
    let g = execute_good terms p t' h.good in
    record {
      status_is = e;
      payload_is = refl;
      alike = by_test (eqb (code (decoded_status t' d.what)) 0)
          (λ q. rw (e, q) (decoded_alike t t' o' h d.what d.members (eqb-true (code (decoded_status t' d.what)) 0 q) (rw q at g)))
          (λ q. rw (e, q) h);
    }

module _ (s s' : Switch) (h : Alike s s') where
  slot_alike : (memory : List ℕ) → AlikeCarried (carried_slot_by plain s memory) (carried_slot_by ordered s' memory)
  unfolding carried_slot_by
  slot_alike memory = rw h.registers_are (carry_alike _ s.tables s'.tables s.order s'.order _ h.tables_are)

  record_same : (memory : List ℕ) → slot_record_by plain s memory ≡ slot_record_by ordered s' memory
  unfolding slot_record_by
  record_same memory = let c = slot_alike memory in rw (c.status_is, c.payload_is, h.registers_are) refl

  process_agrees : (b : Borrowed) → Agree (process_effect_by plain s b) (process_effect_by ordered s' b)
  unfolding process_effect_by process_writes_by
  process_agrees b =
      let c = slot_alike b.memory in
      let r = record_same b.memory in
      agree _ _ refl (rw (c.status_is, r, h.registers_are) refl) (rw (c.status_is, h.registers_are) refl) (rw r refl) refl
      (record { registers_are = rw h.registers_are refl; tables_are = c.alike })

  -- ---- The other calls

  -- a device reset empties both
  write_agrees : (b : Borrowed) (w : Written) → Agree (write_effect s b w) (write_effect s' b w)
  unfolding write_effect
  write_agrees b w =
      agree _ _ refl refl refl refl refl
      (by_test w.resets
      (λ p. rw p (record { registers_are = refl; tables_are = empty_alike }))
      (λ p. rw p (record { registers_are = refl; tables_are = h.tables_are })))

  framed_agrees : (b : Borrowed) (os os' : List Output) → os ≡ os' → Agree (framed s b os) (framed s' b os')
  unfolding framed
  framed_agrees b os os' e = agree _ _ refl (rw e refl) refl refl (rw e refl) h

  outputs_are : (port : ℕ) (f : List ℕ)
      → outputs s.registers (decides_best s.tables.flows) s.tables.groups port f ≡ outputs s'.registers (decides_first s'.tables.flows s'.order) s'.tables.groups port f
  outputs_are port f =
      let t = h.tables_are in
      rw (h.registers_are, t.groups_are) (outputs_same t.flows_are t.distinct t.good.flows_rise t.kept s'.registers s'.tables.groups port f)

  effect_agrees : (b : Borrowed) (r : Request) → Agree (effect_by plain s b r) (effect_by ordered s' b r)
  unfolding effect_by
  effect_agrees b (Read offset width) = unfold read_effect in agree _ _ refl (rw h.registers_are refl) refl refl refl h
  effect_agrees b (Write offset width value) = rw (ap (λ r. write r offset width value) h.registers_are) (write_agrees b (write s'.registers offset width value))
  effect_agrees b (Link port up) =
      unfold linked in
      agree _ _ refl refl refl refl refl (record { registers_are = rw h.registers_are refl; tables_are = h.tables_are })
  effect_agrees b Process = process_agrees b
  effect_agrees b (Frame port) = framed_agrees b _ _ (outputs_are port b.frame)
  effect_agrees b Header = unfold headed in agree _ _ refl refl refl (rw h.registers_are refl) refl h

  refusal_same : (b : Borrowed) (r : Request) → refusal_by plain s b r ≡ refusal_by ordered s' b r
  unfolding refusal_by
  refusal_same b (Read offset width) = refl
  refusal_same b (Write offset width value) = rw h.registers_are refl
  refusal_same b (Link port up) = rw h.registers_are refl
  refusal_same b Process = unfold process_refusal_by in rw (record_same b.memory, h.registers_are) refl
  refusal_same b (Frame port) = rw h.registers_are refl
  refusal_same b Header = refl

  pub step_agrees : (b : Borrowed) (r : Request) → Agree (step_by plain s b r) (step_by ordered s' b r)
  unfolding step_by unless_refused unchanged
  step_agrees b r =
      by_test (eqb (refusal_by ordered s' b r) 0)
      (λ p. rw (refusal_same b r, p) (effect_agrees b r))
      (λ p. rw (refusal_same b r, p) (agree _ _ refl refl refl refl refl h))

pub fresh_alike : (ports id : ℕ) → Alike (fresh_switch ports id) (fresh_switch ports id)
unfolding fresh_switch
fresh_alike ports id = record { registers_are = refl; tables_are = empty_alike }
