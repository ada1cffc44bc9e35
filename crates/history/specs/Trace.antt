-- Lists of calls, and what is seen of each.
use Rattle.std.specs.Prelude.{ℕ, Bool, true, false, ◌≡◌, List, [], ◌∷◌, take, eqb}
use Rattle.rules.specs.Choose.{choose}
use Rattle.rules.specs.Registers.{command_ring}
use Rattle.rules.specs.Switch.{Switch, Borrowed, Result, step}
use Rattle.rules.specs.declared.Request.{Request}
use Rattle.rules.specs.declared.Request.TheVariants.{Read, Write, Link, Process, Frame, Header}

-- A call with its arguments, and what guest memory, frame, buffer and list hold when it is made
pub record Call : Type 0 where
  pub request : Request
  pub borrowed : Borrowed

unfoldable pub step_at : Switch → Call → Result
step_at s m = step s m.borrowed m.request

-- All that an observer sees of a call: its arguments, its answer, the completion that it wrote (0 for none), whether it told that the
-- device was reset, the bytes that it wrote into the buffer, BASE_ADDR as it stood when the call was made, and guest memory before and
-- after it
pub record Seen : Type 0 where
  pub request : Request
  pub answer : ℕ
  pub completed : ℕ
  pub reset : Bool
  pub written : List ℕ
  pub base : ℕ
  pub memory : List ℕ
  pub memory_after : List ℕ

unfoldable pub seen : Switch → Borrowed → Request → Result → Seen
seen s b r x =
    record {
      request = r;
      answer = x.answer;
      completed = x.told.completed;
      reset = x.told.reset;
      written = take x.told.written x.buffer;
      base = (command_ring s.registers).base_addr;
      memory = b.memory;
      memory_after = x.memory;
    }

-- the switch after a list of calls, and what was seen of them
unfoldable pub final : Switch → List Call → Switch
final s [] = s
final s (m ∷ ms) = final (step_at s m).switch ms

unfoldable pub trace : Switch → List Call → List Seen
trace s [] = []
trace s (m ∷ ms) = seen s m.borrowed m.request (step_at s m) ∷ trace (step_at s m).switch ms

-- What an observer has written down after a list of calls: refused ones change nothing
module _ {B : Type 0} (note : B → Seen → B) where
  unfoldable pub noted : B → Seen → B
  noted b x = choose (eqb x.answer 0) (note b x) b

  unfoldable pub observe : B → List Seen → B
  observe b [] = b
  observe b (x ∷ xs) = observe (noted b x) xs

-- process calls and no other, each with what it borrows
unfoldable pub processes : List Borrowed → List Call
processes [] = []
processes (b ∷ bs) = record { request = Process; borrowed = b } ∷ processes bs

-- no call answered 4, 5 or 6
abbrev pub NoneAnswered456 : List Seen → Type 0
NoneAnswered456 [] = Unit {0}
NoneAnswered456 (x ∷ xs) = (x.answer ≡ 4 → ⊥) × (x.answer ≡ 5 → ⊥) × (x.answer ≡ 6 → ⊥) × NoneAnswered456 xs

-- the same calls without the header calls
unfoldable pub is_header : Request → Bool
is_header (Read offset width) = false
is_header (Write offset width value) = false
is_header (Link port up) = false
is_header Process = false
is_header (Frame port) = false
is_header Header = true

unfoldable pub without_headers : List Call → List Call
without_headers [] = []
without_headers (m ∷ ms) = choose (is_header m.request) (without_headers ms) (m ∷ without_headers ms)
