-- Process calls one after another come to answer 3 after as many as slots were outstanding; header calls leave no trace.
-- Assumes nothing.
use Prim.Native.Nat.{ℕ, zero, suc, ◌<◌}
use mathlib.Core.Bool.{Bool, true, false, not}
use mathlib.Core.Path.{◌≡◌, refl, ◌∙◌}
use mathlib.Core.List.{List, [], ◌∷◌}
use native.Mathlib.Omega.{arith}
use lib.ListN.{length}
use lib.Dec.{ltb, leb, eqb}
use Rattle.rules.specs.Choose.{refuse}
use Rattle.rules.specs.Limits.{max_credits}
use Rattle.rules.specs.Bytes.{inside}
use Rattle.rules.specs.Ring.{distance, complete_effect}
use Rattle.rules.specs.Descriptor.{descriptor_at, slot_refusal}
use Rattle.rules.specs.Registers.{command_ring, with_ring}
use Rattle.rules.specs.Switch.{Switch, Borrowed, unchanged, slot_record, buffer_refusal, process_refusal, process_refusal_by, process_effect, process_effect_by, headed, refusal, refusal_by, effect_by, step}
use Rattle.rules.specs.declared.Request.{Request}
use Rattle.rules.specs.declared.Request.TheVariants.{Read, Write, Link, Process, Frame, Header}
use Rattle.rules.proofs.Cases.{by_eq, by_test}
use Rattle.rules.proofs.Switch.{refused, accepted}
use Rattle.history.specs.Trace.{Call, NoneAnswered456, step_at, seen, final, trace, noted, observe, processes, is_header, without_headers}
use Rattle.history.specs.Events.{event}
use Rattle.history.specs.RingHistory.{RingHistory, notes_ring}
use Rattle.history.specs.JournalHistory.{JournalHistory, journal_event, notes_journal}
use Rattle.history.proofs.Always.{answer_is, process_accepted, process_idle}
use Rattle.history.proofs.Slots.{next_is, distance_zero, distance_self, distance_next}
use Rattle.history.proofs.RingInvariant.{RingInvariantOf, process_busy, process_keeps}

-- a number of a chain that was not given is passed over
skip : (t : Bool) (n rest : ℕ) → (refuse t n rest ≡ n → ⊥) → refuse t n rest ≡ rest
skip true n rest h = absurd (h refl)
skip false n rest h = refl

-- a process call that meets none of its refusals is done
process_done : (s : Switch) (b : Borrowed) → (process_refusal s b ≡ 3 → ⊥) → (process_refusal s b ≡ 4 → ⊥) → (process_refusal s b ≡ 5 → ⊥)
    → (process_refusal s b ≡ 6 → ⊥) → process_refusal s b ≡ 0
unfolding process_refusal_by slot_refusal buffer_refusal
process_done s b h3 h4 h5 h6 =
    let e3 = skip (eqb (command_ring s.registers).head (command_ring s.registers).tail) 3 _ h3 in
    let e4 = skip (leb max_credits (command_ring s.registers).credits) 4 _ (λ e. h4 (e3 ∙ e)) in
    let e5 = skip (not (inside (descriptor_at (command_ring s.registers)) 32 b.memory)) 5 _ (λ e. h5 (e3 ∙ (e4 ∙ e))) in
    e3 ∙ (e4 ∙ (e5 ∙ skip (ltb (length b.buffer) (length (slot_record s b.memory))) 6 0 (λ e. h6 (e3 ∙ (e4 ∙ (e5 ∙ e))))))

-- and takes one off what is outstanding
nearer : (s : Switch) (b : Borrowed) (h : RingHistory) → RingInvariantOf (command_ring s.registers) h → process_refusal s b ≡ 0
    → distance (command_ring s.registers).size (command_ring s.registers).tail (command_ring s.registers).head
    ≡ suc (distance (command_ring (process_effect s b).switch.registers).size (command_ring (process_effect s b).switch.registers).tail (command_ring (process_effect s b).switch.registers).head)
unfolding process_effect_by with_ring complete_effect
nearer s b h t e =
    let r = command_ring s.registers in
    let ne = process_busy s b e in
    let ht : r.tail < r.size = omega (arith, ne, t.tail_in, t.head_in) in
    let hh : r.head < r.size = omega (arith, t.head_in) in
    rw (next_is r.size r.tail ht) (distance_next r.size r.tail r.head ht hh ne)

pub drain : (n : ℕ) (s : Switch) (h : RingHistory) (bs : List Borrowed) (b : Borrowed) → RingInvariantOf (command_ring s.registers) h → length bs ≡ n
    → distance (command_ring s.registers).size (command_ring s.registers).tail (command_ring s.registers).head ≡ n → NoneAnswered456 (trace s (processes bs))
    → (step (final s (processes bs)) b Process).answer ≡ 3
unfolding final trace processes step_at seen
drain zero s h [] b t l d u =
    (process_idle s b).1 (distance_zero (command_ring s.registers).size (command_ring s.registers).tail (command_ring s.registers).head t.tail_in t.head_in d)
drain zero s h (x ∷ bs) b t l d u = absurd (omega arith)
drain (suc n) s h [] b t l d u = absurd (omega arith)
drain (suc n) s h (x ∷ bs) b t l d u =
    let a : (step s x Process).answer ≡ process_refusal s x = answer_is s x Process ∙ unfold refusal_by in refl in
    let busy : process_refusal s x ≡ 3 → ⊥ =
    λ e. let q = (process_idle s x).0 (a ∙ e) in
    let z : distance (command_ring s.registers).size (command_ring s.registers).tail (command_ring s.registers).head ≡ 0 = rw q (distance_self (command_ring s.registers).size (command_ring s.registers).tail t.tail_in) in
    omega arith in
    let e : process_refusal s x ≡ 0 = process_done s x busy (λ e. u.0 (a ∙ e)) (λ e. u.1 (a ∙ e)) (λ e. u.2 (a ∙ e)) in
    let p : step s x Process ≡ process_effect s x = process_accepted s x (a ∙ e) in
    let k : RingInvariantOf (command_ring (step s x Process).switch.registers) (notes_ring h (seen s x Process (process_effect s x))) = rw p (process_keeps s x h t e) in
    let m : distance (command_ring (step s x Process).switch.registers).size (command_ring (step s x Process).switch.registers).tail (command_ring (step s x Process).switch.registers).head ≡ n =
    rw p (omega (arith, nearer s x h t e)) in
    drain n (step s x Process).switch _ bs b k (omega arith) m u.3

-- ---- Header calls

header_keeps : (s : Switch) (b : Borrowed) → (step s b Header).switch ≡ s
header_keeps s b =
    by_eq (refusal s b Header) 0
    (λ e p. rw (accepted s b Header e) (unfold effect_by headed in refl))
    (λ ne p. rw (refused s b Header ne) (unfold unchanged in refl))

header_unnoted : (l : JournalHistory) (s : Switch) (b : Borrowed) → noted notes_journal l (seen s b Header (step s b Header)) ≡ l
unfolding noted notes_journal journal_event event seen
header_unnoted l s b = by_test (eqb (step s b Header).answer 0) (λ p. rw p) (λ p. rw p)

skips : (r : Request) (s : Switch) (b : Borrowed) (l : JournalHistory) → is_header r ≡ true
    → ((step s b r).switch ≡ s) × (noted notes_journal l (seen s b r (step s b r)) ≡ l)
unfolding is_header
skips (Read offset width) s b l e = absurd (let z : ◌≡◌ {A = ℕ} 0 1 = cc in omega arith)
skips (Write offset width value) s b l e = absurd (let z : ◌≡◌ {A = ℕ} 0 1 = cc in omega arith)
skips (Link port up) s b l e = absurd (let z : ◌≡◌ {A = ℕ} 0 1 = cc in omega arith)
skips Process s b l e = absurd (let z : ◌≡◌ {A = ℕ} 0 1 = cc in omega arith)
skips (Frame port) s b l e = absurd (let z : ◌≡◌ {A = ℕ} 0 1 = cc in omega arith)
skips Header s b l e = (header_keeps s b, header_unnoted l s b)

-- where the header call was made, how often, or never, matters neither to the switch nor to the journal
pub headers_do_not_matter : (s : Switch) (l : JournalHistory) (ms : List Call)
    → (final s (without_headers ms) ≡ final s ms) × (observe notes_journal l (trace s (without_headers ms)) ≡ observe notes_journal l (trace s ms))
unfolding final trace observe without_headers step_at noted seen
headers_do_not_matter s l [] = (refl, refl)
headers_do_not_matter s l (m ∷ ms) =
    by_test (is_header m.request)
    (λ p. let x = skips m.request s m.borrowed l p in
    rw (p, x.0, x.1) (headers_do_not_matter s l ms))
    (λ p. rw p (headers_do_not_matter (step s m.borrowed m.request).switch (noted notes_journal l (seen s m.borrowed m.request (step s m.borrowed m.request))) ms))
