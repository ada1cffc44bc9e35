-- The one induction over a list of calls: what an accepted call keeps, every list of calls keeps. Refused calls are done with here.
-- Assumes nothing.
use Prim.Native.Nat.{ℕ}
use mathlib.Core.Bool.{Bool, true, false, not}
use mathlib.Core.Path.{◌≡◌, refl, sym, ◌∙◌}
use mathlib.Core.Logic.{◌↔◌}
use mathlib.Core.List.{List, [], ◌∷◌}
use native.Mathlib.Omega.{arith}
use lib.ListN.{length}
use lib.Dec.{ltb, leb, eqb}
use borrow.Author.Tests.{eqb-true, eq-eqb, ne_eqb}
use Rattle.rules.specs.Choose.{refuse}
use Rattle.rules.specs.Limits.{max_credits}
use Rattle.rules.specs.Bytes.{inside}
use Rattle.rules.specs.Registers.{command_ring}
use Rattle.rules.specs.Descriptor.{descriptor_at, slot_refusal}
use Rattle.rules.specs.Switch.{Switch, Borrowed, unchanged, read_effect, write_effect, linked, slot_record, buffer_refusal, process_refusal, process_refusal_by, process_effect, process_effect_by, framed, headed, refusal, refusal_by, effect, effect_by, step}
use Rattle.rules.specs.declared.Request.{Request}
use Rattle.rules.specs.declared.Request.TheVariants.{Read, Write, Link, Process, Frame, Header}
use Rattle.rules.proofs.Cases.{by_eq}
use Rattle.rules.proofs.Switch.{refused, accepted}
use Rattle.history.specs.Trace.{Call, Seen, step_at, seen, final, trace, noted, observe}

-- an effect answers 0
pub effect_answers : (s : Switch) (b : Borrowed) (r : Request) → (effect s b r).answer ≡ 0
unfolding effect_by read_effect write_effect linked process_effect_by framed headed
effect_answers s b (Read offset width) = refl
effect_answers s b (Write offset width value) = refl
effect_answers s b (Link port up) = refl
effect_answers s b Process = refl
effect_answers s b (Frame port) = refl
effect_answers s b Header = refl

module _ {B : Type 0} (note : B → Seen → B) (I : Switch → B → Type 0)
    (keeps : (s : Switch) (b : B) (m : Borrowed) (r : Request) → I s b → refusal s m r ≡ 0
    → I (effect s m r).switch (note b (seen s m r (effect s m r)))) where
  one : (s : Switch) (b : B) (m : Borrowed) (r : Request) → I s b → I (step s m r).switch (noted note b (seen s m r (step s m r)))
  unfolding noted seen unchanged
  one s b m r h =
      by_eq (refusal s m r) 0
      (λ e p. rw (accepted s m r e, eq-eqb (effect s m r).answer 0 (effect_answers s m r)) (keeps s b m r h e))
      (λ ne p. rw (refused s m r ne, ne_eqb (refusal s m r) 0 ne) h)

  pub always : (s : Switch) (b : B) (ms : List Call) → I s b → I (final s ms) (observe note b (trace s ms))
  unfolding final trace observe step_at
  always s b [] h = h
  always s b (m ∷ ms) h =
      always (step s m.borrowed m.request).switch (noted note b (seen s m.borrowed m.request (step s m.borrowed m.request))) ms
      (one s b m.borrowed m.request h)

-- an answer is the refusal
pub answer_is : (s : Switch) (b : Borrowed) (r : Request) → (step s b r).answer ≡ refusal s b r
answer_is s b r =
    by_eq (refusal s b r) 0
    (λ e p. rw (accepted s b r e) (effect_answers s b r ∙ sym e))
    (λ ne p. rw (refused s b r ne) (unfold unchanged in refl))

-- ---- Answer 3 exactly where head equals tail

-- a later number of a chain is not 3
later : (t : Bool) (n rest : ℕ) → (n ≡ 3 → ⊥) → (rest ≡ 3 → ⊥) → refuse t n rest ≡ 3 → ⊥
later true n rest h k e = h e
later false n rest h k e = k e

first : (t : Bool) (rest : ℕ) → (rest ≡ 3 → ⊥) → (refuse t 3 rest ≡ 3) ↔ (t ≡ true)
first true rest k = (λ e. refl, λ e. refl)
first false rest k = (λ e. absurd (k e), λ e. absurd (let z : ◌≡◌ {A = ℕ} 0 1 = cc in omega arith))

pub process_idle : (s : Switch) (b : Borrowed) → ((step s b Process).answer ≡ 3) ↔ ((command_ring s.registers).head ≡ (command_ring s.registers).tail)
unfolding process_refusal_by slot_refusal buffer_refusal
process_idle s b =
    let x = first (eqb (command_ring s.registers).head (command_ring s.registers).tail) _
    (later (leb max_credits (command_ring s.registers).credits) 4 _ (omega arith)
    (later (not (inside (descriptor_at (command_ring s.registers)) 32 b.memory)) 5 _ (omega arith)
    (later (ltb (length b.buffer) (length (slot_record s b.memory))) 6 0 (omega arith) (omega arith)))) in
    let a : (step s b Process).answer ≡ process_refusal s b = answer_is s b Process ∙ unfold refusal_by in refl in
    (λ e. eqb-true _ _ (x.0 (sym a ∙ e)), λ e. a ∙ x.1 (eq-eqb _ _ e))

-- a process call that is answered 0 has its effect
pub process_accepted : (s : Switch) (b : Borrowed) → (step s b Process).answer ≡ 0 → step s b Process ≡ process_effect s b
process_accepted s b e = accepted s b Process (sym (answer_is s b Process) ∙ e) ∙ unfold effect_by in refl
