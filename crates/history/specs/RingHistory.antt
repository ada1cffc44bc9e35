-- The ring history (document 01: the ring book): what the accepted calls and the records of process calls say of the ring.
use Rattle.std.specs.Prelude.{ℕ, zero, suc, ◌+◌, ◌%◌, List, [], ◌∷◌, ◌++◌}
use Rattle.rules.specs.Bytes.{le_at}
use Rattle.rules.specs.Ring.{distance}
use Rattle.history.specs.Trace.{Seen, observe}
use Rattle.history.specs.Events.{Event, event}
use Rattle.history.specs.Events.Event.{Other, WritesBase, WritesSize, WritesHead, WritesCredits, ResetsRing, ResetsDevice, Processes}

pub record RingHistory : Type 0 where
  pub size : ℕ
  pub head : ℕ
  pub posted : List ℕ
  pub consumed : List ℕ

-- head 0 and nothing posted or consumed: so it starts, with size 0, and so a write or reset of the ring leaves it
unfoldable pub emptied : ℕ → RingHistory
emptied size = record { size = size; head = 0; posted = []; consumed = [] }

-- so many slots from one on, modulo the size
unfoldable pub slots : ℕ → ℕ → ℕ → List ℕ
slots size from zero = []
slots size from (suc n) = from ∷ slots size ((from + 1) % size) n

-- an accepted HEAD write: the slots from the old head up to the new one, "none if v is head"
unfoldable pub posts : RingHistory → ℕ → RingHistory
posts b v =
    record {
      size = b.size;
      head = v;
      posted = b.posted ++ slots b.size b.head (distance b.size b.head v);
      consumed = b.consumed;
    }

-- the slot in a record
unfoldable pub slot_in : List ℕ → ℕ
slot_in written = le_at 2 written 4

unfoldable pub consumes : RingHistory → ℕ → RingHistory
consumes b slot = record { size = b.size; head = b.head; posted = b.posted; consumed = b.consumed ++ (slot ∷ []) }

-- BASE_ADDR and SIZE empty the ring, and SIZE sets its size; a reset of the ring or the device zeroes it all; a process call consumes
-- the slot in its record
unfoldable pub notes_event : RingHistory → List ℕ → Event → RingHistory
notes_event b written Other = b
notes_event b written WritesBase = emptied b.size
notes_event b written (WritesSize v) = emptied v
notes_event b written (WritesHead v) = posts b v
notes_event b written (WritesCredits n) = b
notes_event b written ResetsRing = emptied 0
notes_event b written ResetsDevice = emptied 0
notes_event b written Processes = consumes b (slot_in written)

unfoldable pub notes_ring : RingHistory → Seen → RingHistory
notes_ring b x = notes_event b x.written (event x.request)

-- of all that was seen
unfoldable pub ring_of : List Seen → RingHistory
ring_of t = observe notes_ring (emptied 0) t
