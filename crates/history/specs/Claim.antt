-- DEMAND 3. What holds after every list of calls on a fresh device, whatever guest memory, frames, buffers and lists held at each of
-- them. `step` is what `device::call` is proved equal to; `ring_of`, `journal_of` and `credits_of` are what observers made of the trace.
use Rattle.std.specs.Prelude.{ℕ, ◌+◌, true, ◌≡◌, ◌↔◌, List, ◌∷◌, ◌++◌, length, take}
use Rattle.rules.specs.Limits.{max_flows, max_groups}
use Rattle.rules.specs.Ring.{outstanding}
use Rattle.rules.specs.Registers.{command_ring, current_terms}
use Rattle.rules.specs.Tables.{cookie_of, id_of}
use Rattle.rules.specs.Journal.{Progress, record_agrees, tables_after, counted, replay, header, completion}
use Rattle.rules.specs.Journal.Replayed.{Replays}
use Rattle.rules.specs.Switch.{Switch, Borrowed, step}
use Rattle.rules.specs.declared.Status.TheVariants.{Ok}
use Rattle.rules.specs.declared.Request.TheVariants.{Process, Header}
use Rattle.history.specs.Trace.{Seen, NoneAnswered456, seen, final, trace, processes}
use Rattle.history.specs.RingHistory.{ring_of}
use Rattle.history.specs.JournalHistory.{journal_of, kept_by}
use Rattle.history.specs.CreditHistory.{credits_of}
use Rattle.history.specs.Completion.{CompletesItsSlot}
use Rattle.history.specs.TableOrder.{OrderedTable}

-- of a device with so many ports, a switch and what was seen of the calls that led to it
pub record Claim (ports : ℕ) (s : Switch) (t : List Seen) : Type 0 where
  -- consumed is the first part of posted, in order, each posting at most once
  pub order : (ring_of t).consumed ≡ take (length (ring_of t).consumed) (ring_of t).posted
  -- one more process call answers 3 exactly when no posted slot is left
  pub idle : (b : Borrowed) → ((step s b Process).answer ≡ 3) ↔ (length (ring_of t).consumed ≡ length (ring_of t).posted)
  -- every process call of the list that was answered 0 completed its own slot, the next one posted, with its own status ..
  pub completed : (before after : List Seen) (x : Seen) → t ≡ before ++ (x ∷ after) → x.request ≡ Process → x.answer ≡ 0 → CompletesItsSlot before x
  -- .. and so does one more
  pub completes : (b : Borrowed) → (step s b Process).answer ≡ 0 → CompletesItsSlot t (seen s b Process (step s b Process))
  -- keys rise, no two alike, no more entries than places; look-up means the entry with this key
  pub flows : OrderedTable cookie_of max_flows s.tables.flows
  pub groups : OrderedTable id_of max_groups s.tables.groups
  -- replaying the journal gives the device's tables and the charge
  pub replays : replay (header (current_terms ports) ++ (journal_of t).journal)
      ≡ Replays (record { terms = current_terms ports; records = (journal_of t).records; charged = (journal_of t).completed_ok; tables = s.tables })
  -- a host that begins a new journal at each call which tells a reset, and adds the record of each that tells a completion, has that journal
  pub kept : kept_by t ≡ journal_of t
  -- that header is the one which a header call writes, whenever it comes
  pub heads : (b : Borrowed) → (step s b Header).answer ≡ 0
      → (take (step s b Header).told.written (step s b Header).buffer ≡ header (current_terms ports)) × ((step s b Header).switch ≡ s)
  -- a process call that does not complete OK changes no table
  pub unpaid : (b : Borrowed) → ((step s b Process).told.completed ≡ completion Ok → ⊥) → (step s b Process).switch.tables ≡ s.tables
  -- nor does a record of the journal whose status is not OK, which is charged for neither
  pub unpaid_record : (p : Progress) (c : ℕ) (payload : List ℕ) → record_agrees p c payload ≡ true → (c ≡ completion Ok → ⊥)
      → (tables_after p c payload ≡ p.tables) × ((counted p c (tables_after p c payload)).charged ≡ p.charged)
  -- with n slots outstanding, process call n + 1 answers 3 if none before it meets 4, 5 or 6 and no other call comes between
  pub drains : (bs : List Borrowed) (b : Borrowed) → length bs ≡ outstanding (command_ring s.registers) → NoneAnswered456 (trace s (processes bs))
      → (step (final s (processes bs)) b Process).answer ≡ 3
  -- since the last ring or device reset, CREDITS is consumed slots less credits returned by accepted writes
  pub credits : (command_ring s.registers).credits + (credits_of t).returned ≡ (credits_of t).consumed
