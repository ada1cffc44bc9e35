-- What an accepted call is to the ring and to the journal, by its arguments alone.
use Rattle.std.specs.Prelude.{ℕ, ◌%◌, eqb}
use Rattle.rules.specs.Choose.{choose}
use Rattle.rules.specs.Registers.{access, taken}
use Rattle.rules.specs.declared.Register.{Register}
use Rattle.rules.specs.declared.Register.TheVariants.{Magic, TestReg, TestReg64, Control, PortPhysCount, PortPhysLinkStatus, PortPhysEnable, SwitchId, OfRing}
use Rattle.rules.specs.declared.RingRegister.{RingRegister}
use Rattle.rules.specs.declared.RingRegister.TheVariants.{BaseAddr, Size, Head, Tail, Ctrl, Credits}
use Rattle.rules.specs.declared.Access.{Access}
use Rattle.rules.specs.declared.Access.TheVariants.{NotAllowed, Reserved, Whole, Lower, Upper}
use Rattle.rules.specs.declared.Request.{Request}
use Rattle.rules.specs.declared.Request.TheVariants.{Read, Write, Link, Process, Frame, Header}

pub data Event : Type 0 where
  Other : Event
  WritesBase : Event
  WritesSize : ℕ → Event
  WritesHead : ℕ → Event
  WritesCredits : ℕ → Event
  ResetsRing : Event
  ResetsDevice : Event
  Processes : Event

-- of the ring: TAIL cannot be written, and CTRL resets "with bit 0 set"
unfoldable pub ring_event : RingRegister → ℕ → Event
ring_event BaseAddr v = WritesBase
ring_event Size v = WritesSize v
ring_event Head v = WritesHead v
ring_event Tail v = Other
ring_event Ctrl v = choose (eqb (v % 2) 1) ResetsRing Other
ring_event Credits v = WritesCredits v

-- CONTROL too resets "with bit 0 set"
unfoldable pub store_event : Register → ℕ → Event
store_event Magic v = Other
store_event TestReg v = Other
store_event TestReg64 v = Other
store_event Control v = choose (eqb (v % 2) 1) ResetsDevice Other
store_event PortPhysCount v = Other
store_event PortPhysLinkStatus v = Other
store_event PortPhysEnable v = Other
store_event SwitchId v = Other
store_event (OfRing n r) v = ring_event r v

-- a write of the lower half "doesn't count"; one of the upper half does
unfoldable pub write_event : Access → ℕ → Event
write_event NotAllowed v = Other
write_event Reserved v = Other
write_event (Whole r) v = store_event r v
write_event (Lower r) v = Other
write_event (Upper r) v = store_event r v

unfoldable pub event : Request → Event
event (Read offset width) = Other
event (Write offset width value) = write_event (access offset width) (taken width value)
event (Link port up) = Other
event Process = Processes
event (Frame port) = Other
event Header = Other
