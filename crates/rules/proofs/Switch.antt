-- A refused call changes nothing, and a process call no guest byte but those that it writes.
-- Assumes nothing.
use Prim.Native.Nat.{ℕ, ◌<◌}
use mathlib.Core.Bool.{false}
use mathlib.Core.Path.{◌≡◌, refl}
use lib.Dec.{eqb}
use lib.ListN.{length, get_or}
use borrow.Author.Tests.{eq-eqb, ne_eqb}
use Rattle.rules.specs.Writes.{touches}
use Rattle.rules.specs.Switch.{Switch, Borrowed, unchanged, unless_refused, refusal, process_writes, process_effect_by, effect, effect_by, step, step_by}
use Rattle.rules.specs.declared.Request.{Request}
use Rattle.rules.specs.declared.Request.TheVariants.{Process}
use Rattle.rules.proofs.Cases.{by_test}
use Rattle.rules.proofs.Writes.{untouched}

module _ (s : Switch) (b : Borrowed) (r : Request) where
  -- switch, memory, buffer and list are as they were, and nothing is told
  pub refused : (refusal s b r ≡ 0 → ⊥) → step s b r ≡ unchanged s b (refusal s b r)
  unfolding step_by unless_refused
  refused h = simp (ne_eqb (refusal s b r) 0 h)

  pub accepted : refusal s b r ≡ 0 → step s b r ≡ effect s b r
  unfolding step_by unless_refused
  accepted h = simp (eq-eqb (refusal s b r) 0 h)

-- whatever it answers: outside its writes, which are the two bytes of COMP_ERR, guest memory is as it was
pub process_keeps : (s : Switch) (b : Borrowed) (i : ℕ) → i < length b.memory → touches i (process_writes s b.memory) ≡ false
    → get_or (step s b Process).memory i 0 ≡ get_or b.memory i 0
unfolding step_by unless_refused unchanged effect_by process_effect_by
process_keeps s b i h e =
    by_test (eqb (refusal s b Process) 0)
    (λ p. rw p (untouched (process_writes s b.memory) b.memory i h e))
    (λ p. rw p refl)
