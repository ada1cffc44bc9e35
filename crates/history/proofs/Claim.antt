-- Demand 3, proved: one theorem over every list of calls.
-- Assumes nothing.
use Prim.Native.Nat.{ℕ, ◌≤◌}
use mathlib.Core.Bool.{true}
use mathlib.Core.Path.{◌≡◌, refl, sym, ap, ◌∙◌}
use mathlib.Core.List.{List}
use native.Mathlib.Omega.{arith}
use lib.ListN.{length, take}
use lib.Dec.{leb}
use borrow.Author.Tests.{eqb-true, ne_eqb}
use Rattle.rules.specs.Limits.{max_ports, max_payload, max_flows, max_groups}
use Rattle.rules.specs.Bytes.{bytes_of}
use Rattle.rules.specs.Ring.{zero_ring, outstanding}
use Rattle.rules.specs.Descriptor.{Fetched, descriptor_at, descriptor, fetch}
use Rattle.rules.specs.Descriptor.Fetched.{Faulty, Payload}
use Rattle.rules.specs.Registers.{command_ring, current_terms, terms_of, fresh_registers}
use Rattle.rules.specs.Tables.{Tables, cookie_of, id_of, execute}
use Rattle.rules.specs.Journal.{Progress, is_unread, record_agrees, tables_after, counted, ready, finish, finished, ends_in, replay, header, completion}
use Rattle.rules.specs.Engine.{Order}
use Rattle.rules.specs.Switch.{Switch, Borrowed, fresh_switch, unchanged, carry, carry_by, carried_slot_by, process_effect_by, headed, effect_by, step}
use Rattle.rules.specs.declared.Terms.{Terms}
use Rattle.rules.specs.declared.Status.TheVariants.{Ok}
use Rattle.rules.specs.declared.Request.TheVariants.{Process, Header}
use Rattle.rules.proofs.Cases.{by_eq, by_test, and_right}
use Rattle.rules.proofs.Bytes.{take_splice}
use Rattle.rules.proofs.Switch.{refused, accepted}
use Rattle.rules.proofs.Tables.{not_ok_unchanged}
use Rattle.history.specs.Trace.{Call, final, trace}
use Rattle.history.specs.RingHistory.{emptied, notes_ring, ring_of}
use Rattle.history.specs.JournalHistory.{no_records, notes_journal, journal_of, kept_by}
use Rattle.history.specs.CreditHistory.{no_credits, notes_credits, credits_of}
use Rattle.history.specs.Claim.{Claim}
use Rattle.history.proofs.Always.{always, answer_is, process_idle, process_accepted}
use Rattle.history.proofs.RingInvariant.{RingInvariantOf, ring_emptied, ring_order, ring_idle, ring_keeps}
use Rattle.history.proofs.JournalInvariant.{JournalInvariant, journal_begins, journal_keeps}
use Rattle.history.proofs.CreditInvariant.{CreditInvariant, credits_keep}
use Rattle.history.proofs.Kept.{all_kept}
use Rattle.history.proofs.Completions.{step_completes, each_completed}
use Rattle.history.proofs.TableOrder.{ordered_table}
use Rattle.history.proofs.Drains.{drain}

-- ---- A status other than OK

-- leaves the tables
carry_unpaid : (terms : Terms) (t : Tables) (o : Order) (f : Fetched) → (completion (carry terms t o f).status ≡ completion Ok → ⊥)
    → (carry terms t o f).tables ≡ t
unfolding carry_by
carry_unpaid terms t o (Faulty e) n = refl
carry_unpaid terms t o (Payload p) n = not_ok_unchanged terms p t (λ e. n (ap completion e))

process_unpaid : (s : Switch) (b : Borrowed) → ((step s b Process).told.completed ≡ completion Ok → ⊥) → (step s b Process).switch.tables ≡ s.tables
process_unpaid s b n =
    by_eq (step s b Process).answer 0
    (λ e p. rw (process_accepted s b e)
    (unfold process_effect_by carried_slot_by in
    carry_unpaid (terms_of s.registers) s.tables s.order (fetch b.memory (descriptor b.memory (descriptor_at (command_ring s.registers))))
    (rw (process_accepted s b e) at n)))
    (λ ne p. rw (refused s b Process (λ z. ne (answer_is s b Process ∙ z))) (unfold unchanged in refl))

-- so it is in the journal
record_unpaid : (p : Progress) (c : ℕ) (payload : List ℕ) → record_agrees p c payload ≡ true → (c ≡ completion Ok → ⊥)
    → (tables_after p c payload ≡ p.tables) × ((counted p c (tables_after p c payload)).charged ≡ p.charged)
unfolding record_agrees tables_after counted
record_unpaid p c payload h n =
    by_test (is_unread c)
    (λ q. rw (q, ne_eqb c (completion Ok) n) (refl, refl))
    (λ q. let e : c ≡ completion (execute p.terms payload p.tables).status = eqb-true _ _ (and_right (leb (length payload) max_payload) _ (rw q at h)) in
    rw (q, ne_eqb c (completion Ok) n) (not_ok_unchanged p.terms payload p.tables (λ z. n (e ∙ ap completion z)), refl))

-- ---- What a header call writes

header_writes : (ports : ℕ) (s : Switch) (b : Borrowed) → s.registers.ports ≡ ports → (step s b Header).answer ≡ 0
    → (take (step s b Header).told.written (step s b Header).buffer ≡ header (current_terms ports)) × ((step s b Header).switch ≡ s)
header_writes ports s b q e =
    let x : step s b Header ≡ headed s b = accepted s b Header (sym (answer_is s b Header) ∙ e) ∙ unfold effect_by in refl in
    rw x (unfold headed header bytes_of in (rw q (take_splice (header (current_terms ports)) b.buffer), refl))

-- ---- THE THEOREM

-- for every port count from 1 to 62, every switch ID and every list of calls
pub demand3 : (ports id : ℕ) → 1 ≤ ports → ports ≤ max_ports → (calls : List Call)
    → Claim ports (final (fresh_switch ports id) calls) (trace (fresh_switch ports id) calls)
unfolding ring_of journal_of kept_by credits_of
demand3 ports id lo hi calls =
    let s₀ = fresh_switch ports id in
    let s = final s₀ calls in
    let t = trace s₀ calls in
    let ring : (cs : List Call) → RingInvariantOf (command_ring (final s₀ cs).registers) (ring_of (trace s₀ cs)) =
    λ cs. always notes_ring (λ s b. RingInvariantOf (command_ring s.registers) b) ring_keeps s₀ (emptied 0) cs
    (unfold fresh_switch fresh_registers zero_ring in ring_emptied 0 (omega arith)) in
    let here = ring calls in
    let journal = always notes_journal (JournalInvariant ports) (journal_keeps ports) s₀ no_records calls
    (unfold fresh_switch fresh_registers in journal_begins ports (fresh_switch ports id) refl lo hi refl) in
    let credits = always notes_credits (λ s t. CreditInvariant (command_ring s.registers).credits t) credits_keep s₀ no_credits calls
    (unfold fresh_switch fresh_registers zero_ring no_credits in refl) in
    record {
      order = ring_order here;
      idle = λ b. let i = process_idle s b in let j = ring_idle here in (λ e. j.0 (i.0 e), λ e. i.1 (j.1 e));
      completed = each_completed s₀ ring calls;
      completes = λ b. step_completes s b t here;
      flows = ordered_table cookie_of max_flows s.tables.flows journal.in_order.flows_rise journal.in_order.flows_fit;
      groups = ordered_table id_of max_groups s.tables.groups journal.in_order.groups_rise journal.in_order.groups_fit;
      replays = unfold replay finish ready finished ends_in in rw journal.reads;
      kept = all_kept s₀ no_records calls;
      heads = λ b. header_writes ports s b journal.ports_are;
      unpaid = process_unpaid s;
      unpaid_record = record_unpaid;
      drains = λ bs b l u. unfold outstanding in drain (length bs) s (ring_of t) bs b here refl (sym l) u;
      credits = credits;
    }
