-- The ends of a process call, on plain values.
-- Assumes nothing.
use Prim.Native.Nat.{ℕ, ◌+◌, ◌≤◌}
use mathlib.Core.Bool.{Bool, false}
use mathlib.Core.Path.{◌≡◌, refl, sym, ap, ◌∙◌}
use mathlib.Core.List.{List}
use native.Mathlib.Omega.{arith}
use lib.ListN.{length}
use lib.Dec.{ltb}
use borrow.Author.Tests.{lt-ltb}
use Rattle.std.specs.Prelude.{Result as Either, Ok, Err}
use Rattle.rules.specs.Choose.{choose}
use Rattle.rules.specs.Answers.{answer_number}
use Rattle.rules.specs.Limits.{max_credits}
use Rattle.rules.specs.Ring.{complete_effect, complete_raises}
use Rattle.rules.specs.Registers.{command_ring, with_command_ring, terms_of}
use Rattle.rules.specs.Journal.{completion}
use Rattle.rules.specs.Tables.{tables_of}
use Rattle.rules.specs.Switch.{Storage, order_in, Borrowed, switch_of, process_effect, process_effect_by, refusal, refusal_by, effect, effect_by, step}
use Rattle.rules.specs.declared.Refusal.{Refusal}
use Rattle.rules.specs.declared.Counts.{Counts}
use Rattle.rules.specs.declared.Firsts.{Firsts}
use Rattle.rules.specs.declared.Decoding.{Decoding}
use Rattle.rules.specs.declared.Device.{Device}
use Rattle.rules.specs.declared.Request.TheVariants.{Process}
use Rattle.rules.specs.declared.Registers.{Registers}
use Rattle.rules.specs.declared.Terms.{Terms}
use Rattle.rules.specs.declared.Status.{Status}
use Rattle.rules.specs.declared.Status.TheVariants as status
use Rattle.rules.proofs.Bytes.{splice_no_shorter}
use Rattle.carrying.specs.Outcome.{Carried}
use Rattle.slot.specs.Fetching.{payload_of, size_of}
use Rattle.slot.specs.Taking.{Takes}
use Rattle.slot.specs.Completing.{Prepares, Finishes}
use Rattle.slot.specs.declared.Span.{Span}
use Rattle.slot.specs.declared.Taken.{Taken}
use Rattle.slot.proofs.Completing.{Completes, completes}
use Rattle.device.specs.Outcome.{Outcome, told_by, borrowed}
use Rattle.device.specs.declared.Called.{Called}
use Rattle.device.proofs.Outcome.{outcome_refused, outcome_done}

-- the result of completing a slot
abbrev pub result : Counts → Firsts → ℕ → ℕ → Bool → Registers → Called
result counts firsts size completed raises next =
    record {
      value = 0;
      interrupt = raises;
      completed = completed;
      written = 6 + size;
      outputs = 0;
      reset = false;
      device = record { registers = next; counts = counts; firsts = firsts };
    }

-- the copy of the payload leaves the buffer's length
pub still_fits : {q : Decoding} {x : Either Span Status} {terms : Terms} {n : ℕ} {memory buffer between : List ℕ} → Prepares q x terms memory buffer between
    → n ≤ length buffer → n ≤ length between
still_fits {x = x} {memory = memory} {buffer = buffer} p h = omega (arith, ap length p.copied, splice_no_shorter 6 (payload_of x memory) buffer)

module _ (d : Device) (a : Storage) (memory frame buffer list : List ℕ) where
  abbrev here : Borrowed
  here = borrowed memory frame buffer list

  -- what was found at TAIL, and the rules' refusal
  refusal_is : (r : Either Taken Refusal) → Takes r (command_ring d.registers) memory (length buffer) → answer_number r ≡ refusal (switch_of d a) here Process
  unfolding refusal_by switch_of borrowed
  refusal_is r t = t.answer_is (switch_of d a) here refl refl refl

  pub process_refused : (e : Refusal) → Takes (Err e) (command_ring d.registers) memory (length buffer)
      → Outcome (Err e) d a a memory buffer list (step (switch_of d a) here Process)
  unfolding borrowed answer_number
  process_refused e t = outcome_refused d a here Process e (refusal_is (Err e) t)

  module _ (r : Taken) (t : Takes (Ok r) (command_ring d.registers) memory (length buffer))
      (q : Decoding) (ended : Status) (live : Counts) (begins : Firsts) (a' : Storage) (size completed : ℕ) (between memory' buffer' : List ℕ)
      (raises : Bool) (next : Registers)
      (p : Prepares q r.payload (terms_of d.registers) memory buffer between)
      (e : Carried ended (live, begins) d.counts d.firsts a a' q)
      (l : size ≡ size_of r.payload)
      (f : Finishes completed r.at size ended (command_ring d.registers).tail memory memory' between buffer')
      (i : raises ≡ complete_raises (command_ring d.registers))
      (n : next ≡ choose (ltb (command_ring d.registers).credits max_credits) (with_command_ring d.registers (complete_effect (command_ring d.registers))) d.registers) where
    done : Completes (switch_of d a) here q (size_of r.payload) completed memory' buffer'
    unfolding switch_of borrowed
    done = completes (switch_of d a) here r t.taken q ended completed between memory' buffer' p e.status_is (rw l at f)

    moved : next ≡ with_command_ring d.registers (complete_effect (command_ring d.registers))
    moved = n ∙ rw (lt-ltb _ _ t.taken.uncredited)

    -- a status that is OK completes as such
    ok_completes : ended ≡ status.Ok → (process_effect (switch_of d a) here).told.completed ≡ completion status.Ok
    ok_completes o = sym done.completed_is ∙ (f.completed_is ∙ rw o)

    registers_are : next ≡ (process_effect (switch_of d a) here).switch.registers
    unfolding process_effect_by switch_of
    registers_are = moved

    tables_are : tables_of live a'.arrays ≡ (process_effect (switch_of d a) here).switch.tables
    unfolding switch_of
    tables_are = e.tables_are ∙ done.tables_are

    order_is : order_in live.flows begins a'.order ≡ (process_effect (switch_of d a) here).switch.order
    unfolding switch_of
    order_is = e.order_is ∙ done.order_is

    told_as : told_by (Ok (result live begins size completed raises next)) ≡ (process_effect (switch_of d a) here).told
    told_as = rw (done.completed_is, l, done.length_is, i) (unfold process_effect_by switch_of in refl)

    effect_is : Outcome (Ok (result live begins size completed raises next)) d a a' memory' buffer' list (effect (switch_of d a) here Process)
    unfolding effect_by answer_number switch_of
    effect_is =
        record {
          answer_is = unfold process_effect_by in refl;
          told_is = told_as;
          memory_is = done.memory_is;
          buffer_is = done.buffer_is;
          list_is = unfold process_effect_by borrowed in refl;
          switch_is = λ j. record { registers = registers_are j; tables = tables_are j; order = order_is j };
          device_kept = λ z. absurd (z (unfold process_effect_by in refl));
          places_kept = λ z. (e.kept (λ o. z (ok_completes o))).2;
        }

    pub processed : Outcome (Ok (result live begins size completed raises next)) d a a' memory' buffer' list (step (switch_of d a) here Process)
    unfolding answer_number
    processed = outcome_done d a here Process _ a' memory' buffer' list (sym (refusal_is (Ok r) t)) effect_is
