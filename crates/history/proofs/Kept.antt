-- What a host keeps by what calls tell is the journal: a reset is told exactly where the device was reset, a completion exactly where a
-- slot was consumed.
-- Assumes nothing.
use mathlib.Core.Bool.{false}
use mathlib.Core.Path.{◌≡◌, refl, ap, ◌∙◌}
use mathlib.Core.List.{List, [], ◌∷◌}
use native.Mathlib.Omega.{arith}
use lib.Dec.{eqb}
use borrow.Author.Tests.{eq-eqb, ne_eqb}
use Rattle.rules.specs.Registers.{Written, access, taken, write}
use Rattle.rules.specs.Journal.{completion}
use Rattle.rules.specs.Switch.{Switch, Borrowed, carried_slot, unchanged, read_effect, write_effect, linked, process_effect_by, framed, headed, refusal, refusal_by, effect, effect_by, step}
use Rattle.rules.specs.declared.Registers.{Registers}
use Rattle.rules.specs.declared.Status.{Status}
use Rattle.rules.specs.declared.Request.{Request}
use Rattle.rules.specs.declared.Request.TheVariants.{Read, Write, Link, Process, Frame, Header}
use Rattle.rules.proofs.Cases.{by_eq}
use Rattle.rules.proofs.Switch.{refused, accepted}
use Rattle.history.specs.Trace.{Call, Seen, step_at, seen, trace, noted, observe}
use Rattle.history.specs.Events.{Event, event, write_event}
use Rattle.history.specs.Events.Event.{Other, WritesBase, WritesSize, WritesHead, WritesCredits, ResetsRing, ResetsDevice, Processes}
use Rattle.history.specs.JournalHistory.{JournalHistory, journal_event, notes_journal, keeps, kept_from}
use Rattle.history.proofs.Always.{effect_answers}
use Rattle.history.proofs.Writes.{Does, write_does}

-- an accepted write that completed nothing and told what it reset
module _ (d : Registers) (w : Written) (l : JournalHistory) (x : Seen) (c : x.completed ≡ 0) (t : x.reset ≡ w.resets) where
  event_kept : (e : Event) → Does d w e → keeps l x ≡ journal_event l x e
  unfolding keeps journal_event
  event_kept Other h = rw (t ∙ h.resets_is, c)
  event_kept WritesBase h = rw (t ∙ h.resets_is, c)
  event_kept (WritesSize v) h = rw (t ∙ h.0.resets_is, c)
  event_kept (WritesHead v) h = rw (t ∙ h.0.resets_is, c)
  event_kept (WritesCredits n) h = rw (t ∙ h.0.resets_is, c)
  event_kept ResetsRing h = rw (t ∙ h.resets_is, c)
  event_kept ResetsDevice h = rw (t ∙ h.resets_is)
  event_kept Processes h = absurd h

-- no completion is 0
completion_shown : (e : Status) → eqb (completion e) 0 ≡ false
unfolding completion
completion_shown e = ne_eqb (completion e) 0 (omega arith)

done_kept : (s : Switch) (m : Borrowed) (r : Request) (l : JournalHistory) → refusal s m r ≡ 0
    → keeps l (seen s m r (effect s m r)) ≡ notes_journal l (seen s m r (effect s m r))
unfolding refusal_by effect_by
done_kept s m (Read offset width) l e = unfold keeps notes_journal journal_event event seen read_effect in refl
done_kept s m (Write offset width v) l e =
    unfold notes_journal event seen write_effect in
    event_kept s.registers (write s.registers offset width v) l (seen s m (Write offset width v) (write_effect s m (write s.registers offset width v))) refl refl (write_event (access offset width) (taken width v))
    (write_does s.registers offset width v e)
done_kept s m (Link port up) l e = unfold keeps notes_journal journal_event event seen linked in refl
done_kept s m Process l e =
    unfold keeps notes_journal journal_event event seen process_effect_by in
    rw (completion_shown (carried_slot s m.memory).status)
done_kept s m (Frame port) l e = unfold keeps notes_journal journal_event event seen framed in refl
done_kept s m Header l e = unfold keeps notes_journal journal_event event seen headed in refl

-- refused, a call tells nothing
one_kept : (s : Switch) (m : Borrowed) (r : Request) (l : JournalHistory)
    → keeps l (seen s m r (step s m r)) ≡ noted notes_journal l (seen s m r (step s m r))
unfolding noted seen unchanged
one_kept s m r l =
    by_eq (refusal s m r) 0
    (λ e p. rw (accepted s m r e, eq-eqb (effect s m r).answer 0 (effect_answers s m r)) (done_kept s m r l e))
    (λ ne p. rw (refused s m r ne, ne_eqb (refusal s m r) 0 ne) (unfold keeps in refl))

pub all_kept : (s : Switch) (l : JournalHistory) (ms : List Call) → kept_from l (trace s ms) ≡ observe notes_journal l (trace s ms)
unfolding kept_from trace observe step_at
all_kept s l [] = refl
all_kept s l (m ∷ ms) =
    let after : Switch = (step_at s m).switch in
    ap (λ (k : JournalHistory). kept_from k (trace after ms)) (one_kept s m.borrowed m.request l) ∙ all_kept after _ ms
