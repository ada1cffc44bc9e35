-- The two ends of a call: refused with a number, or done with its effect.
-- Assumes nothing.
use Prim.Native.Nat.{ℕ, ◌≤◌, ◌<◌}
use mathlib.Core.Bool.{Bool, true, false}
use mathlib.Core.Path.{◌≡◌, refl, sym, ap, ◌∙◌}
use mathlib.Core.List.{List}
use lib.Dec.{ltb, eqb}
use lib.ListN.{length, replicate}
use borrow.Author.Tests.{lt-ltb, le-ltb, ne_eqb}
use Rattle.std.specs.Prelude.{Result as Either, Ok, Err}
use Rattle.rules.specs.Choose.{choose}
use Rattle.rules.specs.Answers.{refusal_number, answer_number}
use Rattle.rules.specs.Places.{live}
use Rattle.rules.specs.Limits.{max_flows}
use Rattle.rules.specs.Tables.{Arrays, tables_of, empty_tables, none_live, fresh_arrays}
use Rattle.rules.specs.Engine.{no_order}
use Rattle.rules.specs.Members.{elem}
use Rattle.rules.specs.Journal.{header}
use Rattle.rules.specs.Told.{Told}
use Rattle.rules.specs.Registers.{read_refusal, read, write, with_links, link_effect, fresh_registers, raised, terms_of}
use Rattle.rules.specs.Switch.{Storage, order_in, Borrowed, Result, switch_of, unchanged, read_effect, write_effect, link_refusal, linked, buffer_refusal, headed, refusal, refusal_by, effect, effect_by, step, fresh_refusal, fresh_device, fresh_storage}
use Rattle.rules.specs.declared.Refusal.{Refusal}
use Rattle.rules.specs.declared.Refusal.TheVariants.{BufferShort}
use Rattle.rules.specs.declared.Device.{Device}
use Rattle.rules.specs.declared.Registers.{Registers}
use Rattle.rules.specs.declared.Counts.{Counts}
use Rattle.rules.specs.declared.Firsts.{Firsts}
use Rattle.rules.specs.declared.Request.{Request}
use Rattle.rules.specs.declared.Request.TheVariants.{Read, Write, Link, Header}
use Rattle.rules.proofs.Switch.{refused, accepted}
use Rattle.rules.proofs.Journal.{length_header}
use Rattle.answers.proofs.Refusals.{refusal_positive}
use Rattle.registers.specs.Outcomes.{Writes}
use Rattle.registers.specs.declared.Written as regs
use Rattle.journal.specs.Writing as journal
use Rattle.device.specs.Outcome.{Outcome, Makes, told_by, borrowed, quiet, empty, written_to}
use Rattle.device.specs.declared.Called.{Called}

module _ (d : Device) (a : Storage) (b : Borrowed) (q : Request) where
  -- refused: the answer and nothing else
  pub outcome_refused : (e : Refusal) → refusal_number e ≡ refusal (switch_of d a) b q
      → Outcome (Err e) d a a b.memory b.buffer b.list (step (switch_of d a) b q)
  unfolding unchanged answer_number
  outcome_refused e n =
      rw (refused (switch_of d a) b q (λ z. refusal_positive e (n ∙ z)))
      (record { answer_is = n; told_is = refl; memory_is = refl; buffer_is = refl; list_is = refl; switch_is = refl; device_kept = λ z. refl; places_kept = λ z. refl })

  -- done: the effect
  pub outcome_done : (r : Either Called Refusal) (a' : Storage) (memory buffer list : List ℕ) → refusal (switch_of d a) b q ≡ 0
      → Outcome r d a a' memory buffer list (effect (switch_of d a) b q) → Outcome r d a a' memory buffer list (step (switch_of d a) b q)
  outcome_done r a' memory buffer list e o = rw (accepted (switch_of d a) b q e) o

-- ---- What is told, part by part

module _ {r : Either Called Refusal} {d : Device} {a a' : Storage} {memory buffer list : List ℕ} {of : Result} (o : Outcome r d a a' memory buffer list of) where
  pub completed_told : (told_by r).completed ≡ of.told.completed
  completed_told = ap (λ (t : Told). t.completed) o.told_is

  pub written_told : (told_by r).written ≡ of.told.written
  written_told = ap (λ (t : Told). t.written) o.told_is

  pub reset_told : (told_by r).reset ≡ of.told.reset
  reset_told = ap (λ (t : Told). t.reset) o.told_is

-- the vector of the code is 0
pub vector_told : (i : Bool) → elem 0 (raised 0 i) ≡ i
unfolding raised elem
vector_told true = refl
vector_told false = refl

module _ (d : Device) (a : Storage) (b : Borrowed) where
  -- ---- Read

  pub read_done : (offset width v : ℕ) → read_refusal offset width ≡ 0 → v ≡ read d.registers offset width
      → Outcome (Ok (record { value = v; interrupt = false; completed = 0; written = 0; outputs = 0; reset = false; device = d })) d a a b.memory b.buffer b.list (step (switch_of d a) b (Read offset width))
  unfolding refusal_by effect_by read_effect switch_of raised answer_number
  read_done offset width v e h =
      outcome_done d a b (Read offset width) _ _ _ _ _ e
      (record { answer_is = refl; told_is = rw h; memory_is = refl; buffer_is = refl; list_is = refl; switch_is = refl; device_kept = λ z. refl; places_kept = λ z. refl })

  pub read_refused : (offset width : ℕ) (e : Refusal) → refusal_number e ≡ read_refusal offset width
      → Outcome (Err e) d a a b.memory b.buffer b.list (step (switch_of d a) b (Read offset width))
  unfolding refusal_by
  read_refused offset width e n = outcome_refused d a b (Read offset width) e n

  -- ---- Link

  pub link_done : (registers : Registers) (port : ℕ) (up : Bool) → link_refusal d.registers port ≡ 0
      → registers ≡ with_links d.registers (link_effect d.registers.links port up)
      → Outcome (Ok (quiet (record { registers = registers; counts = d.counts; firsts = d.firsts }))) d a a b.memory b.buffer b.list (step (switch_of d a) b (Link port up))
  unfolding refusal_by effect_by linked switch_of raised answer_number
  link_done registers port up z h =
      outcome_done d a b (Link port up) _ _ _ _ _ z
      (record { answer_is = refl; told_is = refl; memory_is = refl; buffer_is = refl; list_is = refl; switch_is = rw h; device_kept = λ n. absurd (n refl); places_kept = λ n. refl })

  pub link_refused : (port : ℕ) (up : Bool) (e : Refusal) → refusal_number e ≡ link_refusal d.registers port
      → Outcome (Err e) d a a b.memory b.buffer b.list (step (switch_of d a) b (Link port up))
  unfolding refusal_by switch_of
  link_refused port up e n = outcome_refused d a b (Link port up) e n

-- ---- Fresh

-- every number 0
pub cleared : {a : Arrays} → a ≡ fresh_arrays → record { arrays = a; order = replicate max_flows 0 } ≡ fresh_storage
unfolding fresh_storage
cleared e = ap (λ (x : Arrays). record { arrays = x; order = replicate max_flows 0 }) e

module _ (ports id : ℕ) where
  pub made : (registers : Registers) (a a' : Storage) → fresh_refusal ports ≡ 0 → registers ≡ fresh_registers ports id → a' ≡ fresh_storage
      → Makes (Ok (empty registers)) ports id a a'
  unfolding fresh_device answer_number
  made registers a a' z h p = record { answer_is = sym z; device_is = rw (z, h); places_are = p ∙ rw z }

  pub not_made : (e : Refusal) (a : Storage) → refusal_number e ≡ fresh_refusal ports → Makes (Err e) ports id a a
  unfolding answer_number
  not_made e a n =
      let f : eqb (fresh_refusal ports) 0 ≡ false = ne_eqb (fresh_refusal ports) 0 (λ z. refusal_positive e (n ∙ z)) in
      record { answer_is = n; device_is = rw f; places_are = rw f }

-- ---- Write

-- the tables after a write: none live after a reset
counts_after : (resets : Bool) (counts : Counts) (a : Arrays)
    → tables_of (choose resets none_live counts) a ≡ choose resets empty_tables (tables_of counts a)
unfolding tables_of none_live empty_tables live
counts_after true counts a = refl
counts_after false counts a = refl

-- and their order: empty after one
order_after : (resets : Bool) (counts : Counts) (firsts : Firsts) (bytes : List ℕ)
    → order_in (choose resets none_live counts).flows (choose resets no_order.firsts firsts) bytes ≡ choose resets no_order (order_in counts.flows firsts bytes)
unfolding order_in none_live no_order
order_after true counts firsts bytes = refl
order_after false counts firsts bytes = refl

module _ (d : Device) (a : Storage) (b : Borrowed) (offset width v : ℕ) where
  -- the device has the registers after the write, and tables and order as they were or, after a reset, none
  pub write_done : (x : regs.Written) → Writes x (write d.registers offset width v)
      → Outcome (Ok (record { value = 0; interrupt = x.interrupt; completed = 0; written = 0; outputs = 0; reset = x.resets; device = written_to d x })) d a a b.memory b.buffer b.list (step (switch_of d a) b (Write offset width v))
  unfolding refusal_by effect_by write_effect switch_of answer_number
  write_done x h =
      outcome_done d a b (Write offset width v) _ _ _ _ _ h.unrefused
      (record { answer_is = refl; told_is = rw (h.vectors, h.resets); memory_is = refl; buffer_is = refl; list_is = refl; switch_is = rw (h.registers, counts_after x.resets d.counts a.arrays, order_after x.resets d.counts d.firsts a.order, h.resets); device_kept = λ n. absurd (n refl); places_kept = λ n. refl })

  pub write_refused : (e : Refusal) → refusal_number e ≡ (write d.registers offset width v).refusal
      → Outcome (Err e) d a a b.memory b.buffer b.list (step (switch_of d a) b (Write offset width v))
  unfolding refusal_by switch_of
  write_refused e n = outcome_refused d a b (Write offset width v) e n

-- ---- Header

module _ (d : Device) (a : Storage) (memory frame buffer list : List ℕ) where
  pub header_short : length buffer < 6
      → Outcome (Err BufferShort) d a a memory buffer list (step (switch_of d a) (borrowed memory frame buffer list) Header)
  unfolding borrowed refusal_by buffer_refusal refusal_number
  header_short h =
      let e : refusal (switch_of d a) (borrowed memory frame buffer list) Header ≡ 6 = rw (lt-ltb _ _ h) in
      outcome_refused d a (borrowed memory frame buffer list) Header BufferShort (sym e)

  pub header_done : (n : ℕ) (after : List ℕ) → 6 ≤ length buffer → journal.Writes n after (header (terms_of d.registers)) buffer
      → Outcome (Ok (record { value = 0; interrupt = false; completed = 0; written = n; outputs = 0; reset = false; device = d })) d a a memory after list (step (switch_of d a) (borrowed memory frame buffer list) Header)
  unfolding borrowed refusal_by buffer_refusal effect_by headed switch_of answer_number raised
  header_done n after h w =
      let t : ltb (length buffer) (length (header (terms_of d.registers))) ≡ false = rw length_header (le-ltb _ _ h) in
      let e : refusal (switch_of d a) (borrowed memory frame buffer list) Header ≡ 0 = rw (le-ltb _ _ h) in
      outcome_done d a (borrowed memory frame buffer list) Header _ _ _ _ _ e
      (record { answer_is = refl; told_is = rw (w.length_is, t, length_header); memory_is = refl; buffer_is = w.buffer_is ∙ rw t; list_is = refl; switch_is = refl; device_kept = λ z. refl; places_kept = λ z. refl })
