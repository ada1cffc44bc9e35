-- "Answer numbers", and the codes of "Work: one slot".
use Rattle.std.specs.Prelude.{ℕ, Result, Ok as Served, Err}
use Rattle.rules.specs.declared.Refusal.{Refusal}
use Rattle.rules.specs.declared.Refusal.TheVariants.{AccessNotAllowed, ValueNotAllowed, RingEmpty, CreditsFull, DescriptorOutside, BufferShort, PortNotAllowed, NotAFrame, ListShort, CutShort, BadMark, BadVersion, BadPortCount, RecordDisagrees, TooFewRecords, RoomShort}
use Rattle.rules.specs.declared.Status.{Status}
use Rattle.rules.specs.declared.Status.TheVariants.{Ok, Enoent, Enxio, Enomem, Eexist, Einval, Emsgsize, Enotsup}

-- the column "no." of the table of answers, from 1 on
unfoldable pub refusal_number : Refusal → ℕ
refusal_number AccessNotAllowed = 1
refusal_number ValueNotAllowed = 2
refusal_number RingEmpty = 3
refusal_number CreditsFull = 4
refusal_number DescriptorOutside = 5
refusal_number BufferShort = 6
refusal_number PortNotAllowed = 7
refusal_number NotAFrame = 8
refusal_number ListShort = 9
refusal_number CutShort = 10
refusal_number BadMark = 11
refusal_number BadVersion = 12
refusal_number BadPortCount = 13
refusal_number RecordDisagrees = 14
-- fewer records than those asked for; a list that its room is too small for
refusal_number TooFewRecords = 15
refusal_number RoomShort = 16

-- what a call answers: the table's first row, 0, where it is done
unfoldable pub answer_number : {A : Type 0} → Result A Refusal → ℕ
answer_number (Served x) = 0
answer_number (Err r) = refusal_number r

-- the "Codes" of a completed command
unfoldable pub code : Status → ℕ
code Ok = 0
code Enoent = 2
code Enxio = 6
code Enomem = 12
code Eexist = 17
code Einval = 22
code Emsgsize = 90
code Enotsup = 95
