-- CREDITS and the credit history say the same, call by call: a process call adds one, an accepted write takes off what it returns.
-- Assumes nothing.
use Prim.Native.Nat.{ℕ, ◌+◌}
use mathlib.Core.Path.{◌≡◌}
use native.Mathlib.Omega.{arith}
use Rattle.rules.specs.Ring.{complete_effect}
use Rattle.rules.specs.Registers.{command_ring, Written, access, taken, write, with_ring, with_links}
use Rattle.rules.specs.Switch.{Switch, Borrowed, read_effect, write_effect, linked, process_effect_by, framed, headed, refusal, refusal_by, effect, effect_by}
use Rattle.rules.specs.declared.Registers.{Registers}
use Rattle.rules.specs.declared.Request.{Request}
use Rattle.rules.specs.declared.Request.TheVariants.{Read, Write, Link, Process, Frame, Header}
use Rattle.history.specs.Trace.{seen}
use Rattle.history.specs.Events.{Event, event, write_event}
use Rattle.history.specs.Events.Event.{Other, WritesBase, WritesSize, WritesHead, WritesCredits, ResetsRing, ResetsDevice, Processes}
use Rattle.history.specs.CreditHistory.{CreditHistory, no_credits, credit_event, notes_credits}
use Rattle.history.proofs.Writes.{Does, write_does}

abbrev pub CreditInvariant : ℕ → CreditHistory → Type 0
CreditInvariant credits t = credits + t.returned ≡ t.consumed

event_keeps : (d : Registers) (w : Written) (t : CreditHistory) (e : Event) → CreditInvariant (command_ring d).credits t → Does d w e
    → CreditInvariant (command_ring w.registers).credits (credit_event t e)
unfolding credit_event no_credits
event_keeps d w t Other h x = rw x.credits_is h
event_keeps d w t WritesBase h x = rw x.credits_is h
event_keeps d w t (WritesSize v) h x = rw x.0.credits_is h
event_keeps d w t (WritesHead v) h x = rw x.0.credits_is h
event_keeps d w t (WritesCredits n) h x = let c = x.0.credits_is in let l = x.1 in omega arith
event_keeps d w t ResetsRing h x = rw x.credits_is
event_keeps d w t ResetsDevice h x = rw x.credits_is
event_keeps d w t Processes h x = absurd x

pub credits_keep : (s : Switch) (t : CreditHistory) (m : Borrowed) (r : Request) → CreditInvariant (command_ring s.registers).credits t → refusal s m r ≡ 0
    → CreditInvariant (command_ring (effect s m r).switch.registers).credits (notes_credits t (seen s m r (effect s m r)))
unfolding refusal_by effect_by
credits_keep s t m (Read offset width) h e = unfold notes_credits credit_event event seen read_effect in h
credits_keep s t m (Write offset width v) h e =
    unfold notes_credits event seen write_effect in
    event_keeps s.registers (write s.registers offset width v) t (write_event (access offset width) (taken width v)) h
    (write_does s.registers offset width v e)
credits_keep s t m (Link port up) h e = unfold notes_credits credit_event event seen linked with_links in h
credits_keep s t m Process h e = unfold notes_credits credit_event event seen process_effect_by with_ring complete_effect in omega arith
credits_keep s t m (Frame port) h e = unfold notes_credits credit_event event seen framed in h
credits_keep s t m Header h e = unfold notes_credits credit_event event seen headed in h
