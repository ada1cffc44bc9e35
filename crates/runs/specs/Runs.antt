-- A run of the code: `device::fresh`, and then calls of `device::call`, each on the device and the arrays that the one before it left.
-- The links are the contracts that the code is proved to keep; guest memory, frame, buffer and list hold anything at each call.
use Rattle.std.specs.Prelude.{ℕ, ◌≡◌, List, [], ◌∷◌, ◌++◌, take, Result as Either, Ok}
use Rattle.rules.specs.Answers.{answer_number}
use Rattle.rules.specs.Registers.{command_ring, current_terms}
use Rattle.rules.specs.Tables.{Arrays, tables_of}
use Rattle.rules.specs.Journal.{header, replay}
use Rattle.rules.specs.Switch.{Switch, Storage, switch_of, step}
use Rattle.rules.specs.declared.Device.{Device}
use Rattle.rules.specs.declared.Refusal.{Refusal}
use Rattle.rules.specs.declared.Request.{Request}
use Rattle.device.specs.Outcome.{Outcome, Makes, borrowed, told_by, device_after, device_made}
use Rattle.device.specs.declared.Called.{Called}
use Rattle.replaying.specs.declared.reader.Progress.{Progress}
use Rattle.replaying.specs.Replaying.{Gives, Replayed}
use Rattle.history.specs.Trace.{Seen}
use Rattle.history.specs.JournalHistory.{journal_of}
use Rattle.history.specs.Claim.{Claim}

-- A call of the code: what it asks for and what it borrows; what it gives, and what it leaves in the arrays and in all that it may write
pub record CodeCall : Type 0 where
  pub request : Request
  pub memory : List ℕ
  pub frame : List ℕ
  pub buffer : List ℕ
  pub list : List ℕ
  pub gives : Either Called Refusal
  pub arrays_after : Storage
  pub memory_after : List ℕ
  pub buffer_after : List ℕ
  pub list_after : List ℕ

-- what `device::call` ensures of it, called on the device d whose places stand in the arrays a
abbrev pub Ensured : Device → Storage → CodeCall → Type 0
Ensured d a c =
    Outcome c.gives d a c.arrays_after c.memory_after c.buffer_after c.list_after
    (step (switch_of d a) (borrowed c.memory c.frame c.buffer c.list) c.request)

-- calls one after another: each gets the device and the arrays that the one before it left, so nobody else writes them between
abbrev pub Chain : Device → Storage → List CodeCall → Type 0
Chain d a [] = Unit {0}
Chain d a (c ∷ cs) = Ensured d a c × Chain (device_after d c.gives) c.arrays_after cs

-- what the last one left
unfoldable pub last_device : Device → List CodeCall → Device
last_device d [] = d
last_device d (c ∷ cs) = last_device (device_after d c.gives) cs

unfoldable pub last_arrays : Storage → List CodeCall → Storage
last_arrays a [] = a
last_arrays a (c ∷ cs) = last_arrays c.arrays_after cs

-- what is seen of a call, by the code's own values, and of all
unfoldable pub seen_by : Device → CodeCall → Seen
seen_by d c =
    record {
      request = c.request;
      answer = answer_number c.gives;
      completed = (told_by c.gives).completed;
      reset = (told_by c.gives).reset;
      written = take (told_by c.gives).written c.buffer_after;
      base = (command_ring d.registers).base_addr;
      memory = c.memory;
      memory_after = c.memory_after;
    }

unfoldable pub seen_of : Device → List CodeCall → List Seen
seen_of d [] = []
seen_of d (c ∷ cs) = seen_by d c ∷ seen_of (device_after d c.gives) cs

-- A run with so many ports and this switch ID: what `device::fresh` ensures, answered 0, and a chain of calls from what it left
pub record Run (ports id : ℕ) : Type 0 where
  pub made : Either Device Refusal
  pub arrays_before : Storage
  pub arrays : Storage
  pub fresh : Makes made ports id arrays_before arrays
  pub answered : answer_number made ≡ 0
  pub calls : List CodeCall
  pub chain : Chain (device_made made) arrays calls

-- the switch that device and arrays stand for at its end, and what was seen of its calls
unfoldable pub final_of : {ports id : ℕ} → Run ports id → Switch
final_of r = switch_of (last_device (device_made r.made) r.calls) (last_arrays r.arrays r.calls)

unfoldable pub trace_of : {ports id : ℕ} → Run ports id → List Seen
trace_of r = seen_of (device_made r.made) r.calls

-- What a replay of the code gives, and the arrays that it leaves, are what the run came to: no fault, the device's tables and the charge
pub record ReplayedAs (q : Replayed) (a : Arrays) (ports : ℕ) (s : Switch) (t : List Seen) : Type 0 where
  pub progress : Progress
  pub done : q ≡ Ok progress
  pub tables_are : tables_of progress.counts a ≡ s.tables
  pub charged_is : progress.charged ≡ (journal_of t).completed_ok
  pub records_are : progress.records ≡ (journal_of t).records
  pub ports_are : progress.terms.ports ≡ ports

-- DEMAND 3 OF THE CODE: the claim, and that `replaying::replay`, by what it ensures of header and journal, gives this back
pub record CodeClaim (ports : ℕ) (s : Switch) (t : List Seen) : Type 0 where
  pub claim : Claim ports s t
  pub replayed : (q : Replayed) (a : Arrays) → Gives q a (replay (header (current_terms ports) ++ (journal_of t).journal)) → ReplayedAs q a ports s t
