-- One step of any call on the whole switch: the answer, and all that the call leaves behind it.
use Rattle.std.specs.Prelude.{ℕ, Bool, not, List, [], ◌∷◌, length, take, replicate, ltb, eqb}
use Rattle.rules.specs.Choose.{choose, refuse}
use Rattle.rules.specs.Answers.{code}
use Rattle.rules.specs.Limits.{max_flows}
use Rattle.rules.specs.Bytes.{bytes_of, splice}
use Rattle.rules.specs.Writes.{Write, bytes_at, memory_after}
use Rattle.rules.specs.Told.{Told, nothing, with_value, with_vectors, with_completed, with_written, with_outputs, with_reset}
use Rattle.rules.specs.Ring.{complete_effect, complete_raises}
use Rattle.rules.specs.Registers.{Written, write, read, read_refusal, command_ring, with_command_ring, raised, with_links, fresh_registers, port_count_allowed, port_allowed, link_effect, terms_of}
use Rattle.rules.specs.Descriptor.{Fetched, descriptor_at, descriptor, slot_refusal, completion_at, fetch}
use Rattle.rules.specs.Descriptor.Fetched.{Faulty, Payload}
use Rattle.rules.specs.Decode.{decode}
use Rattle.rules.specs.Tables.{Tables, Arrays, arrays, empty_tables, fresh_arrays, decoded_status_in, execute_in, tables_of, none_live}
use Rattle.rules.specs.Frame.{Decider, Output, frame_refusal, outputs, list_after}
use Rattle.rules.specs.Engine.{Engine, Order, no_order, ordered}
use Rattle.rules.specs.Journal.{completion, header, record_of}
use Rattle.rules.specs.declared.Terms.{Terms}
use Rattle.rules.specs.declared.Status.{Status}
use Rattle.rules.specs.declared.Registers.{Registers}
use Rattle.rules.specs.declared.Firsts.{Firsts}
use Rattle.rules.specs.declared.FlowEntry.{FlowEntry}
use Rattle.rules.specs.declared.Decoding.{Decoding}
use Rattle.std.specs.Prelude.{Result as Either, Ok as Carry, Err as Refused}
use Rattle.rules.specs.declared.Command.{Command}
use Rattle.rules.specs.declared.Device.{Device}
use Rattle.rules.specs.declared.Request.{Request}
use Rattle.rules.specs.declared.Request.TheVariants.{Read, Write as WriteTo, Link, Process, Frame, Header}

-- The switch as the rules see it
pub record Switch : Type 0 where
  pub registers : Registers
  pub tables : Tables
  pub order : Order

-- What whoever holds a device lends to a call: the places of both tables, and the order of the flows
pub record Storage : Type 0 where
  pub arrays : Arrays
  pub order : List ℕ

abbrev pub storage : List (List ℕ) → List (List ℕ) → List (List ℕ) → List ℕ → Storage
storage flows heads members order = record { arrays = arrays flows heads members; order = order }

-- the order of so many live flows
unfoldable pub order_in : ℕ → Firsts → List ℕ → Order
order_in count firsts bytes = record { places = take count bytes; firsts = firsts }

-- what a device stands for, with what holds its places: its registers, the live entries of its tables and their order
unfoldable pub switch_of : Device → Storage → Switch
switch_of d a =
    record { registers = d.registers; tables = tables_of d.counts a.arrays; order = order_in d.counts.flows d.firsts a.order }

-- ---- Fresh

-- 7: the port count is not 1 to 62
unfoldable pub fresh_refusal : ℕ → ℕ
fresh_refusal ports = refuse (not (port_count_allowed ports)) 7 0

-- "the tables empty"
unfoldable pub fresh_switch : ℕ → ℕ → Switch
fresh_switch ports id = record { registers = fresh_registers ports id; tables = empty_tables; order = no_order }

-- the device itself, all places free
unfoldable pub fresh_device : ℕ → ℕ → Device
fresh_device ports id = record { registers = fresh_registers ports id; counts = none_live; firsts = no_order.firsts }

-- what holds its places, every number 0
unfoldable pub fresh_storage : Storage
fresh_storage = record { arrays = fresh_arrays; order = replicate max_flows 0 }

-- ---- A call

-- What a call borrows, at the moment when it is made
pub record Borrowed : Type 0 where
  pub memory : List ℕ
  pub frame : List ℕ
  pub buffer : List ℕ
  pub list : List ℕ

-- What a call comes to. Refused or not, all that may have changed is here: the frame is only read.
pub record Result : Type 0 where
  pub answer : ℕ
  pub told : Told
  pub memory : List ℕ
  pub buffer : List ℕ
  pub list : List ℕ
  pub switch : Switch

-- an answer and what is told, with the switch and what is lent as they then are
abbrev pub result : ℕ → Told → Switch → Borrowed → Result
result n told s b = record { answer = n; told = told; memory = b.memory; buffer = b.buffer; list = b.list; switch = s }

-- "Any answer but 0": all is as it was, and nothing is told, so a refused read gives 0
unfoldable pub unchanged : Switch → Borrowed → ℕ → Result
unchanged s b answer = result answer nothing s b

-- a refusal number and an effect that is used only at 0
unfoldable pub unless_refused : Switch → Borrowed → ℕ → Result → Result
unless_refused s b refusal effect = choose (eqb refusal 0) effect (unchanged s b refusal)

-- what is lent, written over
abbrev pub with_memory : List ℕ → Borrowed → Borrowed
with_memory memory b = record { memory = memory; frame = b.frame; buffer = b.buffer; list = b.list }

abbrev pub with_buffer : List ℕ → Borrowed → Borrowed
with_buffer buffer b = record { memory = b.memory; frame = b.frame; buffer = buffer; list = b.list }

abbrev pub with_list : List ℕ → Borrowed → Borrowed
with_list list b = record { memory = b.memory; frame = b.frame; buffer = b.buffer; list = list }

-- 6: the buffer is shorter than what is to be written
unfoldable pub buffer_refusal : ℕ → List ℕ → ℕ
buffer_refusal n buffer = refuse (ltb (length buffer) n) 6 0

-- ---- Read and write

unfoldable pub read_effect : Switch → Borrowed → ℕ → ℕ → Result
read_effect s b offset width = result 0 (with_value (read s.registers offset width) nothing) s b

-- a device reset empties the tables, and is told: the journal holds the records since the last one
unfoldable pub write_effect : Switch → Borrowed → Written → Result
write_effect s b w =
    result
    0
    (with_reset w.resets (with_vectors w.vectors nothing))
    (record {
      registers = w.registers;
      tables = choose w.resets empty_tables s.tables;
      order = choose w.resets no_order s.order;
    })
    b

-- ---- Link

unfoldable pub link_refusal : Registers → ℕ → ℕ
link_refusal d port = refuse (not (port_allowed d port)) 7 0

unfoldable pub linked : Switch → Borrowed → ℕ → Bool → Result
linked s b port up =
    result 0 nothing (record { registers = with_links s.registers (link_effect s.registers.links port up); tables = s.tables; order = s.order }) b

-- ---- Process (document 01: the work call)

-- A slot carried out: its status, the payload that is recorded (none of a fault), the tables and the order after it
pub record Carried : Type 0 where
  pub status : Status
  pub payload : List ℕ
  pub tables : Tables
  pub order : Order

-- By either engine (request 2026-05)
module _ (engine : Engine) where
  -- a command that completed OK is followed
  unfoldable pub followed : List FlowEntry → Either Command Status → Order → Order
  followed flows (Carry c) o = engine.follows flows c o
  followed flows (Refused e) o = o

  unfoldable pub order_by : Tables → Decoding → Order → Order
  order_by t d o = choose (eqb (code (decoded_status_in engine.store t d.what)) 0) (followed t.flows d.what o) o

  unfoldable pub carry_by : Terms → Tables → Order → Fetched → Carried
  carry_by terms t o (Faulty e) = record { status = e; payload = []; tables = t; order = o }
  carry_by terms t o (Payload p) =
      record {
        status = (execute_in engine.store terms p t).status;
        payload = p;
        tables = (execute_in engine.store terms p t).tables;
        order = order_by t (decode terms p) o;
      }

  -- the slot at TAIL, as memory holds it before the completion is written
  unfoldable pub carried_slot_by : Switch → List ℕ → Carried
  carried_slot_by s memory =
      carry_by (terms_of s.registers) s.tables s.order (fetch memory (descriptor memory (descriptor_at (command_ring s.registers))))

  unfoldable pub slot_record_by : Switch → List ℕ → List ℕ
  slot_record_by s memory = record_of (carried_slot_by s memory).status (carried_slot_by s memory).payload (command_ring s.registers).tail

  -- 3, 4, 5: there is no slot to complete; 6: its record does not fit
  unfoldable pub process_refusal_by : Switch → Borrowed → ℕ
  process_refusal_by s b =
      slot_refusal (command_ring s.registers) b.memory (buffer_refusal (length (slot_record_by s b.memory)) b.buffer)

  -- all that a process call writes into guest memory: the completion, in the slot's descriptor
  unfoldable pub process_writes_by : Switch → List ℕ → List Write
  process_writes_by s memory =
      bytes_at (completion_at (command_ring s.registers)) (bytes_of 2 (completion (carried_slot_by s memory).status)) ∷ []

  -- "one line a consumed slot", at the start of the buffer, whose rest is kept; the ring completes the slot
  unfoldable pub process_effect_by : Switch → Borrowed → Result
  process_effect_by s b =
      result
      0
      (with_vectors (raised 0 (complete_raises (command_ring s.registers)))
      (with_completed (completion (carried_slot_by s b.memory).status) (with_written (length (slot_record_by s b.memory)) nothing)))
      (record {
        registers = with_command_ring s.registers (complete_effect (command_ring s.registers));
        tables = (carried_slot_by s b.memory).tables;
        order = (carried_slot_by s b.memory).order;
      })
      (with_memory (memory_after (process_writes_by s b.memory) b.memory)
      (with_buffer (splice 0 (slot_record_by s b.memory) b.buffer) b))

-- ---- Frame

unfoldable pub framed : Switch → Borrowed → List Output → Result
framed s b os = result 0 (with_outputs (length os) nothing) s (with_list (list_after os b.list) b)

-- ---- Header

-- "a call of its own"
unfoldable pub headed : Switch → Borrowed → Result
headed s b = result 0 (with_written 6 nothing) s (with_buffer (splice 0 (header (terms_of s.registers)) b.buffer) b)

-- ---- Any call

module _ (engine : Engine) where
  -- what decides in a switch's tables
  abbrev pub decides_in : Switch → Decider
  decides_in s = engine.decides s.tables.flows s.order

  unfoldable pub refusal_by : Switch → Borrowed → Request → ℕ
  refusal_by s b (Read offset width) = read_refusal offset width
  refusal_by s b (WriteTo offset width value) = (write s.registers offset width value).refusal
  refusal_by s b (Link port up) = link_refusal s.registers port
  refusal_by s b Process = process_refusal_by engine s b
  refusal_by s b (Frame port) = frame_refusal s.registers port b.frame b.list
  refusal_by s b Header = buffer_refusal 6 b.buffer

  unfoldable pub effect_by : Switch → Borrowed → Request → Result
  effect_by s b (Read offset width) = read_effect s b offset width
  effect_by s b (WriteTo offset width value) = write_effect s b (write s.registers offset width value)
  effect_by s b (Link port up) = linked s b port up
  effect_by s b Process = process_effect_by engine s b
  effect_by s b (Frame port) = framed s b (outputs s.registers (decides_in s) s.tables.groups port b.frame)
  effect_by s b Header = headed s b

  unfoldable pub step_by : Switch → Borrowed → Request → Result
  step_by s b r = unless_refused s b (refusal_by s b r) (effect_by s b r)

-- ---- The device's

abbrev pub carry : Terms → Tables → Order → Fetched → Carried
carry terms t o f = carry_by ordered terms t o f

abbrev pub carried_slot : Switch → List ℕ → Carried
carried_slot s memory = carried_slot_by ordered s memory

abbrev pub slot_record : Switch → List ℕ → List ℕ
slot_record s memory = slot_record_by ordered s memory

abbrev pub process_refusal : Switch → Borrowed → ℕ
process_refusal s b = process_refusal_by ordered s b

abbrev pub process_writes : Switch → List ℕ → List Write
process_writes s memory = process_writes_by ordered s memory

abbrev pub process_effect : Switch → Borrowed → Result
process_effect s b = process_effect_by ordered s b

abbrev pub refusal : Switch → Borrowed → Request → ℕ
refusal s b r = refusal_by ordered s b r

abbrev pub effect : Switch → Borrowed → Request → Result
effect s b r = effect_by ordered s b r

abbrev pub step : Switch → Borrowed → Request → Result
step s b r = step_by ordered s b r
