-- A write, against the outcome that is used only where nothing refuses it.
-- Assumes nothing.
use Rattle.std.proofs.Common.{◌≡◌, ℕ, Bool, true, false, refl, sym, ◌∙◌, eq-eqb}
use Rattle.std.specs.Prelude.{Result, Ok, Err}
use Rattle.rules.specs.Choose.{choose}
use Rattle.rules.specs.Registers.{ring_at, with_ring, sets, unless_refused}
use Rattle.rules.specs.Registers as rule
use Rattle.rules.specs.declared.Refusal.{Refusal}
use Rattle.rules.specs.declared.Ring.{Ring}
use Rattle.rules.specs.declared.Registers.{Registers}
use Rattle.registers.specs.declared.Written.{Written}
use Rattle.registers.specs.Outcomes.{Gives}

-- a ring that is set or left is so in the registers
pub ring_chosen : (d : Registers) (n : ℕ) (t : Bool) (after : Ring) → with_ring d n (choose t after (ring_at d n)) ≡ choose t (with_ring d n after) d
unfolding with_ring
ring_chosen d n true after = refl
ring_chosen d n false after = refl

-- a refused one has the same number
same_refusal : (t : Bool) (d : Registers) (w : rule.Written) → (choose t w (sets w.refusal d)).refusal ≡ w.refusal
unfolding sets
same_refusal true d w = refl
same_refusal false d w = refl

pub gives_unless : (d : Registers) (of : rule.Written) (r : Result Written Refusal) → Gives r of → Gives r (unless_refused d of)
unfolding unless_refused
gives_unless d of (Ok w) g = rw (eq-eqb _ _ g.unrefused) g
gives_unless d of (Err e) g = g ∙ sym (same_refusal _ d of)
