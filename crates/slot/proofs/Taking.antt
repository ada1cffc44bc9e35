-- The ends of `take`, on plain values. The answers 3, 4 and 5 are those of the ring alone, whatever the conditions after them would give
-- (`no_slot`), and at 0 these are asked (`slot_there`): what is left is whether the record fits, and its length is that of the slot.
-- Assumes nothing.
use Prim.Native.Nat.{ℕ, ◌+◌, ◌≤◌, ◌<◌}
use mathlib.Core.Bool.{Bool, true, false, not}
use mathlib.Core.Path.{◌≡◌, refl, sym, ap, ◌∙◌}
use mathlib.Core.List.{List}
use Rattle.std.specs.Prelude.{Result, Ok, Err, IfOk}
use Rattle.answers.proofs.Refusals.{refusal_positive}
use native.Mathlib.Omega.{arith}
use lib.ListN.{length}
use lib.Dec.{eqb, ltb, leb}
use borrow.Author.Tests.{ne_eqb, lt-ltb, le-ltb, leb-false, not-false}
use Rattle.rules.specs.Choose.{refuse}
use Rattle.rules.specs.Limits.{max_credits}
use Rattle.rules.specs.Answers.{refusal_number, answer_number}
use Rattle.rules.specs.Bytes.{inside, part}
use Rattle.rules.specs.Registers.{command_ring, terms_of}
use Rattle.rules.specs.Descriptor.{descriptor_at, descriptor, slot_refusal}
use Rattle.rules.specs.Tables.{Tables}
use Rattle.rules.specs.Engine.{Order}
use Rattle.rules.specs.Journal.{record_of}
use Rattle.rules.specs.Switch.{Switch, Borrowed, carry, carry_by, carried_slot, carried_slot_by, slot_record, slot_record_by, buffer_refusal, process_refusal, process_refusal_by}
use Rattle.rules.specs.declared.Terms.{Terms}
use Rattle.rules.specs.declared.Refusal.{Refusal}
use Rattle.rules.specs.declared.Refusal.TheVariants.{BufferShort}
use Rattle.rules.specs.declared.Status.{Status}
use Rattle.rules.specs.declared.Ring.{Ring}
use Rattle.rules.specs.declared.Descriptor.{Descriptor}
use Rattle.rules.proofs.Journal.{length_record}
use Rattle.journal.proofs.Writing.{length_part}
use Rattle.slot.specs.Fetching.{payload_of, size_of, handed, Fetches}
use Rattle.slot.specs.Taking.{Takes}
use Rattle.slot.specs.declared.Span.{Span}
use Rattle.slot.proofs.Fetching.{is_inside}

-- ---- A ring's refusals, for any conditions after them

abbrev three : Bool → Bool → Bool → ℕ → ℕ
three a b c rest = refuse a 3 (refuse b 4 (refuse c 5 rest))

one_refuses : (a b c : Bool) (rest : ℕ) → (three a b c 0 ≡ 0 → ⊥) → three a b c rest ≡ three a b c 0
one_refuses true b c rest n = refl
one_refuses false true c rest n = refl
one_refuses false false true rest n = refl
one_refuses false false false rest n = absurd (n refl)

none_refuses : (a b c : Bool) → three a b c 0 ≡ 0 → (a ≡ false) × (b ≡ false) × (c ≡ false)
none_refuses true b c e = absurd (omega arith)
none_refuses false true c e = absurd (omega arith)
none_refuses false false true e = absurd (omega arith)
none_refuses false false false e = (refl, refl, refl)

-- what is so where a ring has a slot to complete
pub record There (ring : Ring) (memory : List ℕ) : Type 0 where
  pub uncredited : ring.credits < max_credits
  pub within : descriptor_at ring + 32 ≤ length memory
  pub asked : (rest : ℕ) → slot_refusal ring memory rest ≡ rest

module _ (ring : Ring) (memory : List ℕ) where
  abbrev empty : Bool
  empty = eqb ring.head ring.tail

  abbrev full : Bool
  full = leb max_credits ring.credits

  abbrev outside : Bool
  outside = not (inside (descriptor_at ring) 32 memory)

  pub no_slot : (slot_refusal ring memory 0 ≡ 0 → ⊥) → (rest : ℕ) → slot_refusal ring memory rest ≡ slot_refusal ring memory 0
  unfolding slot_refusal
  no_slot n rest = one_refuses empty full outside rest n

  pub slot_there : slot_refusal ring memory 0 ≡ 0 → There ring memory
  unfolding slot_refusal
  slot_there z =
      let p = none_refuses empty full outside z in
      record {
        uncredited = leb-false max_credits ring.credits p.1;
        within = is_inside ring memory (not-false _ p.2);
        asked = λ rest. rw (p.0, p.1, p.2);
      }

-- ---- A slot that was fetched, as the rules carry it out

-- what is recorded is the part of memory that the slot names: of a fault, nothing
payload_is : (terms : Terms) (t : Tables) (o : Order) (memory : List ℕ) (x : Result Span Status)
    → (carry terms t o (handed x memory)).payload ≡ payload_of x memory
unfolding carry_by
payload_is terms t o memory (Ok p) = refl
payload_is terms t o memory (Err e) = refl

pub length_payload : (x : Result Span Status) (memory : List ℕ) → IfOk x (λ p. p.start + p.size ≤ length memory)
    → length (payload_of x memory) ≡ size_of x
length_payload (Ok p) memory h = length_part p.size memory p.start h
length_payload (Err e) memory h = refl

module _ (s : Switch) (memory : List ℕ) (x : Result Span Status) (f : Fetches x memory (descriptor memory (descriptor_at (command_ring s.registers)))) where
  pub carried_is : carried_slot s memory ≡ carry (terms_of s.registers) s.tables s.order (handed x memory)
  unfolding carried_slot_by
  carried_is = rw f.fetched

  pub record_is : slot_record s memory ≡ record_of (carried_slot s memory).status (payload_of x memory) (command_ring s.registers).tail
  unfolding slot_record_by
  record_is = rw (carried_is, payload_is (terms_of s.registers) s.tables s.order memory x)

  pub record_length : length (slot_record s memory) ≡ 6 + size_of x
  record_length = rw (record_is, length_record, length_payload x memory f.fits)

-- ---- The answers

-- the descriptor that was read is the one at TAIL
pub fetched_at : (ring : Ring) {memory : List ℕ} {at : ℕ} {d : Descriptor} {x : Result Span Status} → at ≡ descriptor_at ring
    → d ≡ descriptor memory at → Fetches x memory d → Fetches x memory (descriptor memory (descriptor_at ring))
fetched_at ring e q f = rw (q, e) at f

module _ (ring : Ring) (memory : List ℕ) (bytes : ℕ) where
  -- there is no slot
  pub take_none : (e : Refusal) → refusal_number e ≡ slot_refusal ring memory 0 → Takes (Err e) ring memory bytes
  unfolding answer_number process_refusal_by
  take_none e q =
      record {
        answer_is = λ s b r m l. rw (r, m) (q ∙ sym (no_slot ring memory (λ z. refusal_positive e (q ∙ z)) _));
        taken = tt;
      }

  module _ (there : There ring memory) (x : Result Span Status) (f : Fetches x memory (descriptor memory (descriptor_at ring))) where
    -- what is left to ask is whether the record fits
    fitting : (s : Switch) (b : Borrowed) → command_ring s.registers ≡ ring → b.memory ≡ memory → length b.buffer ≡ bytes
        → process_refusal s b ≡ refuse (ltb bytes (6 + size_of x)) 6 0
    unfolding process_refusal_by buffer_refusal
    fitting s b e m l =
        let n : length (slot_record s memory) ≡ 6 + size_of x = record_length s memory x (rw e f) in
        rw (m, n, l, e) (there.asked _)

    pub take_short : bytes < 6 + size_of x → Takes (Err BufferShort) ring memory bytes
    unfolding answer_number refusal_number
    take_short h =
        record { answer_is = λ s b e m l. sym (fitting s b e m l ∙ rw (lt-ltb _ _ h)); taken = tt }

    pub take_done : (at : ℕ) → at ≡ descriptor_at ring → 6 + size_of x ≤ bytes → Takes (Ok (record { at = at; payload = x })) ring memory bytes
    unfolding answer_number
    take_done at e h =
        record {
          answer_is = λ s b r m l. sym (fitting s b r m l ∙ rw (le-ltb _ _ h));
          taken = record { uncredited = there.uncredited; stands = e; within = rw e there.within; fetches = rw e f; fits = h };
        }
