-- The number of a refusal: 1 to 16.
-- Assumes nothing.
use Prim.Native.Nat.{◌≤◌}
use mathlib.Core.Path.{◌≡◌}
use native.Mathlib.Omega.{arith}
use Rattle.std.specs.Prelude.{Result, Ok, Err}
use Rattle.rules.specs.Answers.{refusal_number, answer_number}
use Rattle.rules.specs.declared.Refusal.{Refusal}
use Rattle.rules.specs.declared.Refusal.TheVariants.{AccessNotAllowed, ValueNotAllowed, RingEmpty, CreditsFull, DescriptorOutside, BufferShort, PortNotAllowed, NotAFrame, ListShort, CutShort, BadMark, BadVersion, BadPortCount, RecordDisagrees, TooFewRecords, RoomShort}

pub refusal_range : (e : Refusal) → (1 ≤ refusal_number e) × (refusal_number e ≤ 16)
unfolding refusal_number
refusal_range AccessNotAllowed = (omega arith, omega arith)
refusal_range ValueNotAllowed = (omega arith, omega arith)
refusal_range RingEmpty = (omega arith, omega arith)
refusal_range CreditsFull = (omega arith, omega arith)
refusal_range DescriptorOutside = (omega arith, omega arith)
refusal_range BufferShort = (omega arith, omega arith)
refusal_range PortNotAllowed = (omega arith, omega arith)
refusal_range NotAFrame = (omega arith, omega arith)
refusal_range ListShort = (omega arith, omega arith)
refusal_range CutShort = (omega arith, omega arith)
refusal_range BadMark = (omega arith, omega arith)
refusal_range BadVersion = (omega arith, omega arith)
refusal_range BadPortCount = (omega arith, omega arith)
refusal_range RecordDisagrees = (omega arith, omega arith)
refusal_range TooFewRecords = (omega arith, omega arith)
refusal_range RoomShort = (omega arith, omega arith)

pub refusal_positive : (e : Refusal) → refusal_number e ≡ 0 → ⊥
refusal_positive e z = omega (arith, (refusal_range e).0)

pub answer_small : {A : Type 0} (r : Result A Refusal) → answer_number r ≤ 16
unfolding answer_number
answer_small (Ok x) = omega arith
answer_small (Err e) = (refusal_range e).1
