-- What a call promises: every part of its outcome is the one of the rules' step.
use Rattle.std.specs.Prelude.{ℕ, false, ◌≡◌, List, eqb, Result as Either, Ok, Err}
use Rattle.rules.specs.Choose.{choose}
use Rattle.rules.specs.Answers.{answer_number}
use Rattle.rules.specs.Registers.{raised}
use Rattle.rules.specs.Journal.{completion}
use Rattle.rules.specs.Tables.{none_live}
use Rattle.rules.specs.Engine.{no_order}
use Rattle.rules.specs.Told.{Told, nothing}
use Rattle.rules.specs.Switch.{Storage, Borrowed, Result, switch_of, fresh_refusal, fresh_device, fresh_storage}
use Rattle.rules.specs.declared.Refusal.{Refusal}
use Rattle.rules.specs.declared.Status.TheVariants as status
use Rattle.rules.specs.declared.Device.{Device}
use Rattle.rules.specs.declared.Registers.{Registers}
use Rattle.registers.specs.declared.Written.{Written}
use Rattle.device.specs.declared.Called.{Called}

-- what a call of the code tells, as the rules have it: its one vector is 0. Refused, nothing
abbrev pub told_by : Either Called Refusal → Told
told_by (Ok r) =
    record { value = r.value; vectors = raised 0 r.interrupt; completed = r.completed; written = r.written; outputs = r.outputs; reset = r.reset }
told_by (Err e) = nothing

-- the device after a call of it: refused, as it was
abbrev pub device_after : Device → Either Called Refusal → Device
device_after d (Ok r) = r.device
device_after d (Err e) = d

-- of a call r on the device d, whose places and order stand in a and after it in a': what guest memory, buffer and list hold after it,
-- and the rules' result of it
pub record Outcome (r : Either Called Refusal) (d : Device) (a a' : Storage) (memory buffer list : List ℕ) (of : Result) : Type 0 where
  pub answer_is : answer_number r ≡ of.answer
  pub told_is : told_by r ≡ of.told
  pub memory_is : memory ≡ of.memory
  pub buffer_is : buffer ≡ of.buffer
  pub list_is : list ≡ of.list
  pub switch_is : switch_of (device_after d r) a' ≡ of.switch
  -- a refused call leaves every part of the device as it was
  pub device_kept : (of.answer ≡ 0 → ⊥) → device_after d r ≡ d
  -- unless a command completed OK, no word of either table and no byte of the order changes. After one that did, what free places hold is left open
  pub places_kept : (of.told.completed ≡ completion status.Ok → ⊥) → a' ≡ a

-- what a call borrows
unfoldable pub borrowed : List ℕ → List ℕ → List ℕ → List ℕ → Borrowed
borrowed memory frame buffer list = record { memory = memory; frame = frame; buffer = buffer; list = list }

-- a call that is done and tells nothing
abbrev pub quiet : Device → Called
quiet d = record { value = 0; interrupt = false; completed = 0; written = 0; outputs = 0; reset = false; device = d }

-- a device with no live place
abbrev pub empty : Registers → Device
empty registers = record { registers = registers; counts = none_live; firsts = no_order.firsts }

-- the device after a write of its registers
abbrev pub written_to : Device → Written → Device
written_to d w = record { registers = w.registers; counts = choose w.resets none_live d.counts; firsts = choose w.resets no_order.firsts d.firsts }

-- the device that `fresh` makes: refused none, with every number 0
abbrev pub device_made : Either Device Refusal → Device
device_made (Ok d) = d
device_made (Err e) = fresh_device 0 0

-- a fresh device, and every number of its places and their order 0; refused, no device, and all as it was
pub record Makes (r : Either Device Refusal) (ports id : ℕ) (a a' : Storage) : Type 0 where
  pub answer_is : answer_number r ≡ fresh_refusal ports
  pub device_is : device_made r ≡ choose (eqb (fresh_refusal ports) 0) (fresh_device ports id) (fresh_device 0 0)
  pub places_are : a' ≡ choose (eqb (fresh_refusal ports) 0) fresh_storage a
