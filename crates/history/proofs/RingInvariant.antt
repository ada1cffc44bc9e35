-- The ring's registers and its history say the same: what is posted is what was consumed and then the slots from tail to head.
-- Assumes nothing.
use Prim.Native.Nat.{ℕ, suc, ◌+◌, ◌-◌, ◌%◌, ◌≤◌, ◌<◌}
use mathlib.Core.Bool.{Bool, true, false, not}
use mathlib.Core.Path.{◌≡◌, refl}
use mathlib.Core.Logic.{◌↔◌}
use mathlib.Core.List.{List, ◌∷◌, ◌++◌, append_assoc}
use native.Mathlib.Omega.{arith}
use lib.ListN.{length, take, drop, length-append}
use lib.Seq.{take-append_seam, drop-append_seam}
use lib.Dec.{leb, eqb}
use borrow.Author.Tests.{leb-true, eqb-false, not-false}
use Rattle.rules.specs.Choose.{refuse}
use Rattle.rules.specs.Limits.{max_credits}
use Rattle.rules.specs.Bytes.{inside}
use Rattle.rules.specs.Ring.{distance, complete_effect}
use Rattle.rules.specs.Descriptor.{descriptor_at, slot_refusal}
use Rattle.rules.specs.Registers.{command_ring, Written, access, taken, write, with_ring, with_links}
use Rattle.rules.specs.Switch.{Switch, Borrowed, carried_slot, slot_record, slot_record_by, process_refusal, process_refusal_by, read_effect, write_effect, linked, process_effect, process_effect_by, framed, headed, refusal, refusal_by, effect, effect_by}
use Rattle.rules.specs.declared.Ring.{Ring}
use Rattle.rules.specs.declared.Registers.{Registers}
use Rattle.rules.specs.declared.Request.{Request}
use Rattle.rules.specs.declared.Request.TheVariants.{Read, Write, Link, Process, Frame, Header}
use Rattle.rules.proofs.Bytes.{take_splice}
use Rattle.rules.proofs.Journal.{record_slot}
use Rattle.history.specs.Trace.{seen}
use Rattle.history.specs.Events.{Event, event, write_event}
use Rattle.history.specs.Events.Event.{Other, WritesBase, WritesSize, WritesHead, WritesCredits, ResetsRing, ResetsDevice, Processes}
use Rattle.history.specs.RingHistory.{RingHistory, emptied, slots, posts, slot_in, consumes, notes_event, notes_ring}
use Rattle.history.proofs.Slots.{next_is, next_in, distance_start, distance_self, distance_zero, distance_add, distance_next, lands, slots_length, slots_add}
use Rattle.history.proofs.Writes.{Does, write_does}

pub record RingInvariant (size head tail : ℕ) (b : RingHistory) : Type 0 where
  pub size_is : b.size ≡ size
  pub head_is : b.head ≡ head
  pub posted_is : b.posted ≡ b.consumed ++ slots size tail (distance size tail head)
  pub small : size ≤ 65536
  pub head_in : head ≤ size - 1
  pub tail_in : tail ≤ size - 1

abbrev pub RingInvariantOf : Ring → RingHistory → Type 0
RingInvariantOf r b = RingInvariant r.size r.head r.tail b

-- head and tail 0, nothing posted
pub ring_emptied : (size : ℕ) → size ≤ 65536 → RingInvariant size 0 0 (emptied size)
unfolding emptied slots
ring_emptied size h =
    record { size_is = refl; head_is = refl; posted_is = rw distance_start; small = h; head_in = omega arith; tail_in = omega arith }

module _ {size head tail : ℕ} {b : RingHistory} (h : RingInvariant size head tail b) where
  -- a HEAD write that is accepted
  ring_head : (v : ℕ) → v < size → distance size tail head + distance size head v ≤ size - 1 → RingInvariant size v tail (posts b v)
  unfolding posts
  ring_head v lt fits =
      let ht : tail < size = omega (arith, h.tail_in) in
      let hh : head < size = omega (arith, h.head_in) in
      record {
        size_is = h.size_is;
        head_is = refl;
        posted_is = rw (h.size_is, h.head_is, h.posted_is, append_assoc, distance_add size tail head v ht hh lt fits, slots_add size tail (distance size tail head) (distance size head v) ht, lands size tail head ht hh);
        small = h.small;
        head_in = omega arith;
        tail_in = h.tail_in;
      }

  -- a slot completed
  ring_consumed : (head ≡ tail → ⊥) → RingInvariant size head ((tail + 1) % size) (consumes b tail)
  unfolding consumes slots
  ring_consumed ne =
      let ht : tail < size = omega (arith, ne, h.tail_in, h.head_in) in
      let hh : head < size = omega (arith, h.head_in) in
      record {
        size_is = h.size_is;
        head_is = h.head_is;
        posted_is = rw (h.posted_is, distance_next size tail head ht hh ne, append_assoc);
        small = h.small;
        head_in = h.head_in;
        tail_in = omega (arith, next_in size tail ht);
      }

  -- ---- What the claim says of the ring

  pub ring_order : b.consumed ≡ take (length b.consumed) b.posted
  ring_order = rw (h.posted_is, take-append_seam)

  ring_length : length b.posted ≡ length b.consumed + distance size tail head
  ring_length = rw (h.posted_is, length-append, slots_length)

  -- the first of those posted and not consumed
  pub ring_next : (head ≡ tail → ⊥) → (later : List ℕ) × (drop (length b.consumed) b.posted ≡ tail ∷ later)
  unfolding slots
  ring_next ne =
      let ht : tail < size = omega (arith, ne, h.tail_in, h.head_in) in
      let hh : head < size = omega (arith, h.head_in) in
      (slots size ((tail + 1) % size) (distance size ((tail + 1) % size) head), rw (h.posted_is, drop-append_seam, distance_next size tail head ht hh ne))

  pub ring_idle : (head ≡ tail) ↔ (length b.consumed ≡ length b.posted)
  ring_idle = (
    λ e. let z : distance size tail head ≡ 0 = rw e (distance_self size tail h.tail_in) in omega (arith, ring_length),
    λ e. distance_zero size tail head h.tail_in h.head_in (omega (arith, ring_length)),
  )

-- ---- An accepted write

event_keeps : (d : Registers) (w : Written) (b : RingHistory) (written : List ℕ) (e : Event) → RingInvariantOf (command_ring d) b → Does d w e
    → RingInvariantOf (command_ring w.registers) (notes_event b written e)
unfolding notes_event
event_keeps d w b written Other h x = rw (x.size_is, x.head_is, x.tail_is) h
event_keeps d w b written WritesBase h x =
    rw (x.size_is, x.head_is, x.tail_is, h.size_is) (ring_emptied (command_ring d).size h.small)
event_keeps d w b written (WritesSize v) h x = rw (x.0.size_is, x.0.head_is, x.0.tail_is) (ring_emptied v x.1)
event_keeps d w b written (WritesHead v) h x = rw (x.0.size_is, x.0.head_is, x.0.tail_is) (ring_head h v x.1 x.2)
event_keeps d w b written (WritesCredits n) h x = rw (x.0.size_is, x.0.head_is, x.0.tail_is) h
event_keeps d w b written ResetsRing h x = rw (x.size_is, x.head_is, x.tail_is) (ring_emptied 0 (omega arith))
event_keeps d w b written ResetsDevice h x = rw (x.size_is, x.head_is, x.tail_is) (ring_emptied 0 (omega arith))
event_keeps d w b written Processes h x = absurd x

-- ---- A process call

-- a refusal that was not given: its condition does not hold, and what comes after it is not given either
passed : (t : Bool) (n rest : ℕ) → refuse t (suc n) rest ≡ 0 → (t ≡ false) × (rest ≡ 0)
passed true n rest e = absurd (omega arith)
passed false n rest e = (refl, e)

-- answered 0: head is not tail, and the descriptor is inside memory
pub process_busy : (s : Switch) (m : Borrowed) → process_refusal s m ≡ 0 → (command_ring s.registers).head ≡ (command_ring s.registers).tail → ⊥
unfolding process_refusal_by slot_refusal
process_busy s m e = eqb-false _ _ (passed (eqb (command_ring s.registers).head (command_ring s.registers).tail) 2 _ e).0

pub process_inside : (s : Switch) (m : Borrowed) → process_refusal s m ≡ 0 → descriptor_at (command_ring s.registers) + 32 ≤ length m.memory
unfolding process_refusal_by slot_refusal inside
process_inside s m e =
    let a = passed (eqb (command_ring s.registers).head (command_ring s.registers).tail) 2 _ e in
    let b = passed (leb max_credits (command_ring s.registers).credits) 3 _ a.1 in
    let c = passed (not (leb (descriptor_at (command_ring s.registers) + 32) (length m.memory))) 4 _ b.1 in
    leb-true _ _ (not-false _ c.0)

-- the bytes that it writes are the record, which has the slot
pub process_written : (s : Switch) (m : Borrowed) → (seen s m Process (process_effect s m)).written ≡ slot_record s m.memory
unfolding seen process_effect_by
process_written s m = take_splice (slot_record s m.memory) m.buffer

pub process_slot : (s : Switch) (m : Borrowed) (b : RingHistory) → RingInvariantOf (command_ring s.registers) b
    → slot_in (slot_record s m.memory) ≡ (command_ring s.registers).tail
unfolding slot_record_by slot_in
process_slot s m b h =
    record_slot (carried_slot s m.memory).status (carried_slot s m.memory).payload (command_ring s.registers).tail
    (omega (arith, h.tail_in, h.small))

pub process_keeps : (s : Switch) (m : Borrowed) (b : RingHistory) → RingInvariantOf (command_ring s.registers) b → process_refusal s m ≡ 0
    → RingInvariantOf (command_ring (process_effect s m).switch.registers) (notes_ring b (seen s m Process (process_effect s m)))
unfolding notes_ring notes_event event process_effect_by seen
process_keeps s m b h e =
    let r = command_ring s.registers in
    let ne = process_busy s m e in
    let ht : r.tail < r.size = omega (arith, ne, h.tail_in, h.head_in) in
    rw (process_written s m, process_slot s m b h)
    (unfold process_effect_by with_ring complete_effect in rw (next_is r.size r.tail ht) (ring_consumed h ne))

pub ring_keeps : (s : Switch) (b : RingHistory) (m : Borrowed) (r : Request) → RingInvariantOf (command_ring s.registers) b → refusal s m r ≡ 0
    → RingInvariantOf (command_ring (effect s m r).switch.registers) (notes_ring b (seen s m r (effect s m r)))
unfolding refusal_by effect_by
ring_keeps s b m (Read offset width) h e = unfold notes_ring notes_event event seen read_effect in h
ring_keeps s b m (Write offset width v) h e =
    unfold notes_ring event seen write_effect in
    event_keeps s.registers (write s.registers offset width v) b _ (write_event (access offset width) (taken width v)) h
    (write_does s.registers offset width v e)
ring_keeps s b m (Link port up) h e = unfold notes_ring notes_event event seen linked with_links in h
ring_keeps s b m Process h e = process_keeps s m b h e
ring_keeps s b m (Frame port) h e = unfold notes_ring notes_event event seen framed in h
ring_keeps s b m Header h e = unfold notes_ring notes_event event seen headed in h
