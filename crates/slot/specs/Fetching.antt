-- What a descriptor hands over.
use Rattle.std.specs.Prelude.{ℕ, ◌+◌, ◌≤◌, ◌≡◌, List, [], length, eqb, Result, Ok, Err, IfOk}
use Rattle.rules.specs.Choose.{choose}
use Rattle.rules.specs.Answers.{code}
use Rattle.rules.specs.Limits.{max_payload}
use Rattle.rules.specs.Bytes.{part}
use Rattle.rules.specs.Descriptor.{Fetched, fetch}
use Rattle.rules.specs.Descriptor.Fetched.{Faulty, Payload}
use Rattle.rules.specs.declared.Status.{Status}
use Rattle.rules.specs.declared.Descriptor.{Descriptor}
use Rattle.slot.specs.declared.Span.{Span}
use Rattle.slot.specs.declared.Slot.{Slot}

-- the bytes that it names, and how many: a fault hands over none
abbrev pub payload_of : Result Span Status → List ℕ → List ℕ
payload_of (Ok p) memory = part p.size memory p.start
payload_of (Err e) memory = []

abbrev pub size_of : Result Span Status → ℕ
size_of (Ok p) = p.size
size_of (Err e) = 0

-- as the rules have it
abbrev pub handed : Result Span Status → List ℕ → Fetched
handed (Ok p) memory = Payload (part p.size memory p.start)
handed (Err e) memory = Faulty e

pub record Fetches (r : Result Span Status) (memory : List ℕ) (d : Descriptor) : Type 0 where
  pub fetched : fetch memory d ≡ handed r memory
  pub fits : IfOk r (λ p. p.start + p.size ≤ length memory)
  pub short : size_of r ≤ max_payload

-- the bytes that a slot names, and what it hands over: OK is a payload, any other status a fault
abbrev pub bytes_in : Slot → List ℕ → List ℕ
bytes_in s memory = part s.size memory s.start

unfoldable pub handed_in : Slot → List ℕ → Fetched
handed_in s memory = choose (eqb (code s.status) 0) (Payload (bytes_in s memory)) (Faulty s.status)
