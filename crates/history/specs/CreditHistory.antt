-- Slots consumed, and credits returned by accepted writes, since the last reset of the ring or the device.
use Rattle.std.specs.Prelude.{ℕ, ◌+◌, List}
use Rattle.history.specs.Trace.{Seen, observe}
use Rattle.history.specs.Events.{Event, event}
use Rattle.history.specs.Events.Event.{Other, WritesBase, WritesSize, WritesHead, WritesCredits, ResetsRing, ResetsDevice, Processes}

pub record CreditHistory : Type 0 where
  pub consumed : ℕ
  pub returned : ℕ

unfoldable pub no_credits : CreditHistory
no_credits = record { consumed = 0; returned = 0 }

unfoldable pub credit_event : CreditHistory → Event → CreditHistory
credit_event t Other = t
credit_event t WritesBase = t
credit_event t (WritesSize v) = t
credit_event t (WritesHead v) = t
credit_event t (WritesCredits n) = record { consumed = t.consumed; returned = t.returned + n }
credit_event t ResetsRing = no_credits
credit_event t ResetsDevice = no_credits
credit_event t Processes = record { consumed = t.consumed + 1; returned = t.returned }

unfoldable pub notes_credits : CreditHistory → Seen → CreditHistory
notes_credits t x = credit_event t (event x.request)

-- of all that was seen
unfoldable pub credits_of : List Seen → CreditHistory
credits_of t = observe notes_credits no_credits t
