-- What a process call finds at TAIL.
use Rattle.std.specs.Prelude.{ℕ, ◌+◌, ◌≤◌, ◌<◌, ◌≡◌, List, length, Result, IfOk}
use Rattle.rules.specs.Limits.{max_credits}
use Rattle.rules.specs.Answers.{answer_number}
use Rattle.rules.specs.Registers.{command_ring}
use Rattle.rules.specs.Descriptor.{descriptor_at, descriptor}
use Rattle.rules.specs.Switch.{Switch, Borrowed, process_refusal}
use Rattle.rules.specs.declared.Refusal.{Refusal}
use Rattle.rules.specs.declared.Ring.{Ring}
use Rattle.slot.specs.Fetching.{Fetches, size_of}
use Rattle.slot.specs.declared.Taken.{Taken}

-- a slot that may be completed: its descriptor stands at a position, and its record fits so many bytes
pub record Ready (t : Taken) (ring : Ring) (memory : List ℕ) (bytes : ℕ) : Type 0 where
  pub uncredited : ring.credits < max_credits
  pub stands : t.at ≡ descriptor_at ring
  pub within : t.at + 32 ≤ length memory
  pub fetches : Fetches t.payload memory (descriptor memory t.at)
  pub fits : 6 + size_of t.payload ≤ bytes

-- the answer is that of the rules, whatever the rest of the switch holds; at 0 a slot is ready
pub record Takes (r : Result Taken Refusal) (ring : Ring) (memory : List ℕ) (bytes : ℕ) : Type 0 where
  pub answer_is : (s : Switch) (b : Borrowed) → command_ring s.registers ≡ ring → b.memory ≡ memory → length b.buffer ≡ bytes
      → answer_number r ≡ process_refusal s b
  pub taken : IfOk r (λ t. Ready t ring memory bytes)
