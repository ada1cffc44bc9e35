-- The journal reads back as the switch's tables and the charge, and the tables are in order: a record more is read after those before
-- it, and carrying it out again agrees.
-- Assumes nothing.
use Prim.Native.Nat.{ℕ, ◌≤◌}
use mathlib.Core.Bool.{Bool, true, false}
use mathlib.Core.Path.{◌≡◌, refl}
use mathlib.Core.List.{◌++◌, append_assoc, append-nil}
use native.Mathlib.Omega.{arith}
use Rattle.rules.specs.Choose.{choose}
use Rattle.rules.specs.Limits.{max_ports}
use Rattle.rules.specs.Descriptor.{Fetched, descriptor_at, descriptor, fetch}
use Rattle.rules.specs.Descriptor.Fetched.{Faulty, Payload}
use Rattle.rules.specs.Registers.{command_ring, current_terms, terms_of, Written, access, taken, write, with_ring, with_links}
use Rattle.rules.specs.Tables.{Tables, empty_tables}
use Rattle.rules.specs.Version.{known}
use Rattle.rules.specs.Journal.{Progress, begin, ready, opened, feeds, counted, header, completion}
use Rattle.rules.specs.Engine.{Order}
use Rattle.rules.specs.Switch.{Switch, Borrowed, Carried, carry, carry_by, carried_slot, carried_slot_by, slot_record, slot_record_by, read_effect, write_effect, linked, process_effect, process_effect_by, framed, headed, refusal, refusal_by, effect, effect_by}
use Rattle.rules.specs.declared.Terms.{Terms}
use Rattle.rules.specs.declared.Request.{Request}
use Rattle.rules.specs.declared.Request.TheVariants.{Read, Write, Link, Process, Frame, Header}
use Rattle.rules.proofs.Tables.{Good, empty_good, execute_good}
use Rattle.rules.proofs.Journal.{feeds_append, record_reads, header_opens}
use Rattle.rules.proofs.Agreement.{fetch_agrees, fetch_short}
use Rattle.history.specs.Trace.{Seen, seen}
use Rattle.history.specs.Events.{Event, event, write_event}
use Rattle.history.specs.Events.Event.{Other, WritesBase, WritesSize, WritesHead, WritesCredits, ResetsRing, ResetsDevice, Processes}
use Rattle.history.specs.JournalHistory.{JournalHistory, no_records, with_record, journal_event, notes_journal}
use Rattle.history.proofs.Writes.{Does, write_does}
use Rattle.history.proofs.RingInvariant.{process_written}

-- what replay is to come to
abbrev pub account : ℕ → Tables → JournalHistory → Progress
account ports t l = record { terms = current_terms ports; records = l.records; charged = l.completed_ok; tables = t }

pub record JournalInvariant (ports : ℕ) (s : Switch) (l : JournalHistory) : Type 0 where
  pub ports_are : s.registers.ports ≡ ports
  pub low : 1 ≤ ports
  pub high : ports ≤ max_ports
  pub in_order : Good s.tables
  pub reads : feeds begin (header (current_terms ports) ++ l.journal) ≡ ready (account ports s.tables l)

pub journal_begins : (ports : ℕ) (s : Switch) → s.registers.ports ≡ ports → 1 ≤ ports → ports ≤ max_ports → s.tables ≡ empty_tables → JournalInvariant ports s no_records
unfolding no_records opened known
journal_begins ports s p lo hi t =
    record { ports_are = p; low = lo; high = hi; in_order = rw t empty_good; reads = rw (append-nil, t) (header_opens (current_terms ports) refl lo hi) }

-- ports and tables are all that it looks at
same : {ports : ℕ} (s s' : Switch) (l : JournalHistory) → JournalInvariant ports s l → s'.registers.ports ≡ s.registers.ports → s'.tables ≡ s.tables → JournalInvariant ports s' l
same s s' l h p t = record { ports_are = rw p h.ports_are; low = h.low; high = h.high; in_order = rw t h.in_order; reads = rw t h.reads }

-- ---- An accepted write

module _ (ports : ℕ) (s : Switch) (m : Borrowed) (l : JournalHistory) (x : Seen) (h : JournalInvariant ports s l) (w : Written) where
  write_keeps : (resets : Bool) → w.resets ≡ resets → w.registers.ports ≡ s.registers.ports → JournalInvariant ports (write_effect s m w).switch (choose resets no_records l)
  unfolding write_effect
  write_keeps true r p = journal_begins ports _ (rw p h.ports_are) h.low h.high (rw r)
  write_keeps false r p = same s _ l h p (rw r)

  event_keeps : (e : Event) → Does s.registers w e → JournalInvariant ports (write_effect s m w).switch (journal_event l x e)
  unfolding journal_event
  event_keeps Other d = write_keeps false d.resets_is d.ports_is
  event_keeps WritesBase d = write_keeps false d.resets_is d.ports_is
  event_keeps (WritesSize v) d = write_keeps false d.0.resets_is d.0.ports_is
  event_keeps (WritesHead v) d = write_keeps false d.0.resets_is d.0.ports_is
  event_keeps (WritesCredits n) d = write_keeps false d.0.resets_is d.0.ports_is
  event_keeps ResetsRing d = write_keeps false d.resets_is d.ports_is
  event_keeps ResetsDevice d = write_keeps true d.resets_is d.ports_is
  event_keeps Processes d = absurd d

-- ---- A process call: its record is read, and replay agrees

-- a slot carried out keeps the order
carry_good : (terms : Terms) (t : Tables) (o : Order) (f : Fetched) → Good t → Good (carry terms t o f).tables
unfolding carry_by
carry_good terms t o (Faulty e) g = g
carry_good terms t o (Payload p) g = execute_good terms p t g

process_keeps : (ports : ℕ) (s : Switch) (l : JournalHistory) (m : Borrowed) → JournalInvariant ports s l
    → JournalInvariant ports (process_effect s m).switch (with_record l (completion (carried_slot s m.memory).status) (slot_record s m.memory))
unfolding process_effect_by with_record slot_record_by carried_slot_by counted with_ring
process_keeps ports s l m h =
    let d = descriptor m.memory (descriptor_at (command_ring s.registers)) in
    let c : Carried = carry (current_terms ports) s.tables s.order (fetch m.memory d) in
    let p : Progress = account ports s.tables l in
    let short = fetch_short (current_terms ports) s.tables s.order m.memory d in
    record {
      ports_are = h.ports_are;
      low = h.low;
      high = h.high;
      in_order = carry_good (terms_of s.registers) s.tables s.order (fetch m.memory d) h.in_order;
      reads = rw (h.ports_are, ← append_assoc, feeds_append, h.reads, record_reads p c.status (command_ring s.registers).tail c.payload (omega arith)) (fetch_agrees p s.order m.memory d);
    }

pub journal_keeps : (ports : ℕ) (s : Switch) (l : JournalHistory) (m : Borrowed) (r : Request) → JournalInvariant ports s l → refusal s m r ≡ 0
    → JournalInvariant ports (effect s m r).switch (notes_journal l (seen s m r (effect s m r)))
unfolding refusal_by effect_by
journal_keeps ports s l m (Read offset width) h e = unfold notes_journal journal_event event seen read_effect in h
journal_keeps ports s l m (Write offset width v) h e =
    unfold notes_journal event seen in
    event_keeps ports s m l (seen s m (Write offset width v) (write_effect s m (write s.registers offset width v))) h (write s.registers offset width v) (write_event (access offset width) (taken width v))
    (write_does s.registers offset width v e)
journal_keeps ports s l m (Link port up) h e = unfold notes_journal journal_event event seen linked with_links in same s _ l h refl refl
journal_keeps ports s l m Process h e = unfold notes_journal journal_event event in rw (process_written s m) (unfold seen in record_kept)
  where
    record_kept : JournalInvariant ports (process_effect s m).switch (with_record l (process_effect s m).told.completed (slot_record s m.memory))
    record_kept = let k = process_keeps ports s l m h in unfold process_effect_by in k
journal_keeps ports s l m (Frame port) h e = unfold notes_journal journal_event event seen framed in h
journal_keeps ports s l m Header h e = unfold notes_journal journal_event event seen headed in h
