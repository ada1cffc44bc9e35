-- A register is reached whole or by its upper half: one call of `store` serves both.
-- Assumes nothing.
use Rattle.rules.proofs.Cases.{true_or_false}
use Rattle.rules.specs.declared.Access.TheVariants.{Whole, Upper}
use Rattle.std.proofs.Common.{◌≡◌, ◌⊎◌, ⊎_elim}
use Rattle.registers.specs.Fits.{Bounded, number_for}
use Rattle.rules.specs.Registers.{write_to}
use Rattle.registers.proofs.write_to.Goals as goal
use Rattle.registers.proofs.write_to.Goals.{In-Whole}

pub overflow_cast-v : goal.overflow_cast-v
unfolding Bounded
overflow_cast-v c = record { fits = rw c.in-Lower.is at c.requires }

-- a register, whole or by its upper half
reached : (c : In-Whole) → (c.args.a ≡ Whole c.in-Whole.r) ⊎ (c.args.a ≡ Upper c.in-Whole.r)
reached c = c.in-Whole.is

pub store-requires : goal.store-requires
unfolding Bounded number_for
store-requires c =
    λ n. ⊎_elim
    (λ e. rw (c.number_for-n.ensures, e) ((rw e at c.requires) n))
    (λ e. true_or_false _ (rw e at c.requires).0 n)
    (reached (goal.at.store-requires c).In-Whole)

pub returns-in-Whole : goal.returns-in-Whole
unfolding write_to number_for
returns-in-Whole c =
    let f = c.number_for-n.ensures in
    ⊎_elim
    (λ e. rw e (rw (f, e) at c.store.ensures))
    (λ e. rw e (rw (f, e) at c.store.ensures))
    (reached (goal.at.returns-in-Whole c).In-Whole)
