-- The kind of a number, and whether it is one of a command.
-- Assumes nothing.
use Prim.Native.Nat.{ℕ}
use mathlib.Core.Path.{◌≡◌, sym}
use mathlib.Core.Bool.{true, false}
use Rattle.std.proofs.Common.{Result, Ok, Err}
use Rattle.rules.specs.Decode.{is_command}
use Rattle.rules.proofs.Cases.{by_eq}
use Rattle.command.specs.declared.kind.CommandKind.{CommandKind}
use Rattle.command.specs.declared.kind.UnknownCommand.{UnknownCommand}
use Rattle.command.specs.Kind.{kind_of, number_of}

-- what a kind says of a number
abbrev Told : ℕ → Result CommandKind UnknownCommand → Type 0
Told n (Ok k) = (is_command n ≡ true) × (number_of k ≡ n)
Told n (Err u) = is_command n ≡ false

told : (n : ℕ) → Told n (kind_of n)
unfolding is_command
told n =
    by_eq n 3 (λ a p. rw p (rw p, sym a))
    (λ a p. by_eq n 4 (λ b q. rw (p, q) (rw (p, q), sym b))
    (λ b q. by_eq n 5 (λ d r. rw (p, q, r) (rw (p, q, r), sym d))
    (λ d r. by_eq n 7 (λ f t. rw (p, q, r, t) (rw (p, q, r, t), sym f))
    (λ f t. by_eq n 8 (λ g v. rw (p, q, r, t, v) (rw (p, q, r, t, v), sym g))
    (λ g v. by_eq n 9 (λ h w. rw (p, q, r, t, v, w) (rw (p, q, r, t, v, w), sym h))
    (λ h w. rw (p, q, r, t, v, w) (rw (p, q, r, t, v, w))))))))

pub kind_err : (n : ℕ) (u : UnknownCommand) → kind_of n ≡ Err u → is_command n ≡ false
kind_err n u e = rw e at (told n)

pub kind_ok : (n : ℕ) (k : CommandKind) → kind_of n ≡ Ok k → (is_command n ≡ true) × (number_of k ≡ n)
kind_ok n k e = rw e at (told n)
