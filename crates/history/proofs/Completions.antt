-- Every process call of a list completes its own slot: a place of the trace is a call after a list of calls, and there the ring
-- invariant says that the slot at TAIL is the next one posted.
-- Assumes nothing.
use Prim.Native.Nat.{ℕ}
use mathlib.Core.Path.{◌≡◌, refl, sym, ◌∙◌}
use mathlib.Core.List.{List, [], ◌∷◌, ◌++◌, nil≢cons}
use Rattle.rules.specs.Bytes.{le_at}
use Rattle.rules.specs.Writes.{memory_after}
use Rattle.rules.specs.Registers.{command_ring}
use Rattle.rules.specs.Descriptor.{descriptor_at, completion_at}
use Rattle.rules.specs.Journal.{completion, record_of}
use Rattle.rules.specs.Switch.{Switch, Borrowed, carried_slot, slot_record, slot_record_by, process_refusal, process_writes_by, process_effect, process_effect_by, refusal_by, step}
use Rattle.rules.specs.declared.Status.{Status}
use Rattle.rules.specs.declared.Request.TheVariants.{Process}
use Rattle.rules.proofs.Bytes.{two_front}
use Rattle.rules.proofs.Journal.{completion_below}
use Rattle.history.specs.Trace.{Call, Seen, step_at, seen, final, trace}
use Rattle.history.specs.RingHistory.{ring_of}
use Rattle.history.specs.Completion.{CompletesItsSlot, completion_in}
use Rattle.history.proofs.Always.{answer_is, process_accepted}
use Rattle.history.proofs.RingInvariant.{RingInvariantOf, ring_next, process_busy, process_inside, process_written, process_slot}

-- the completion in a record
record_completion : (e : Status) (bs : List ℕ) (slot : ℕ) → completion_in (record_of e bs slot) ≡ completion e
unfolding completion_in record_of le_at
record_completion e bs slot = two_front (completion e) _ (completion_below e)

-- A PROCESS CALL THAT IS ANSWERED 0 COMPLETES THE NEXT SLOT POSTED
module _ (s : Switch) (b : Borrowed) (t : List Seen) (h : RingInvariantOf (command_ring s.registers) (ring_of t)) where
  effect_completes : process_refusal s b ≡ 0 → CompletesItsSlot t (seen s b Process (process_effect s b))
  effect_completes e =
      let c = carried_slot s b.memory in
      let slot = process_slot s b (ring_of t) h in
      let comp : completion_in (slot_record s b.memory) ≡ completion c.status = unfold slot_record_by in record_completion c.status c.payload (command_ring s.registers).tail in
      let n = ring_next h (process_busy s b e) in
      record {
        later = n.0;
        next = rw (process_written s b, slot) n.1;
        status = c.status;
        recorded = rw (process_written s b) comp;
        returned = rw (process_written s b, comp) (unfold seen process_effect_by in refl);
        inside = rw (process_written s b, slot) (let i = process_inside s b e in unfold seen descriptor_at in i);
        stamped = rw (process_written s b, slot, comp) (unfold seen process_effect_by process_writes_by memory_after completion_at descriptor_at in refl);
      }

  pub step_completes : (step s b Process).answer ≡ 0 → CompletesItsSlot t (seen s b Process (step s b Process))
  step_completes e =
      rw (process_accepted s b e) (effect_completes (sym (answer_is s b Process ∙ unfold refusal_by in refl) ∙ e))

-- a place of the trace: the calls before it, and the call
pub record Place (s : Switch) (before : List Seen) (x : Seen) : Type 0 where
  pub calls : List Call
  pub call : Call
  pub before_is : before ≡ trace s calls
  pub seen_is : x ≡ seen (final s calls) call.borrowed call.request (step_at (final s calls) call)

pub place : (s : Switch) (ms : List Call) (before after : List Seen) (x : Seen) → trace s ms ≡ before ++ (x ∷ after) → Place s before x
unfolding trace final
place s [] [] after x e = absurd (nil≢cons e)
place s [] (y ∷ before) after x e = absurd (nil≢cons e)
place s (m ∷ ms) [] after x e = record { calls = []; call = m; before_is = refl; seen_is = cc }
place s (m ∷ ms) (y ∷ before) after x e =
    let p = place (step_at s m).switch ms before after x (cc) in
    record { calls = m ∷ p.calls; call = p.call; before_is = cc p.before_is; seen_is = p.seen_is }

-- and so did every one of the trace
module _ (s : Switch) (ring : (calls : List Call) → RingInvariantOf (command_ring (final s calls).registers) (ring_of (trace s calls))) where
  call_completed : (before : List Seen) (x : Seen) (calls : List Call) (c : Call) → before ≡ trace s calls
      → x ≡ seen (final s calls) c.borrowed c.request (step_at (final s calls) c) → x.request ≡ Process → x.answer ≡ 0 → CompletesItsSlot before x
  unfolding step_at
  call_completed before x calls c b i q a =
      let q' = rw i at q in
      let r : c.request ≡ Process = unfold seen in q' in
      let i' = rw r at i in
      let a' = rw i' at a in
      rw (b, i') (step_completes (final s calls) c.borrowed (trace s calls) (ring calls) (unfold seen in a'))

  pub each_completed : (ms : List Call) (before after : List Seen) (x : Seen) → trace s ms ≡ before ++ (x ∷ after)
      → x.request ≡ Process → x.answer ≡ 0 → CompletesItsSlot before x
  each_completed ms before after x e =
      let p = place s ms before after x e in call_completed before x p.calls p.call p.before_is p.seen_is
