-- An output in the two ways that code holds it, and sent.
-- Assumes nothing.
use Prim.Native.Nat.{ℕ, ◌+◌, ◌*◌}
use mathlib.Core.Bool.{Bool, true, false, not, ◌&&◌, ◌||◌}
use mathlib.Core.Path.{◌≡◌, refl}
use mathlib.Core.List.{List}
use lib.ListN.{length}
use lib.Dec.{eqb}
use Rattle.rules.specs.Limits.{output_numbers}
use Rattle.rules.specs.Bytes.{splice}
use Rattle.rules.specs.Registers.{is_up}
use Rattle.rules.specs.Frame.{bridged, Output, mac_numbers, copy_of, is_kept}
use Rattle.rules.specs.declared.Registers.{Registers}
use Rattle.rules.proofs.Cases.{by_test}
use Rattle.copies.specs.declared.Rewrite.{Rewrite as Held}
use Rattle.copies.specs.Copies.{rewrite_in, output_to, Sends}

-- ---- An output

pub length_copy : (o : Output) → length (copy_of o) ≡ output_numbers
unfolding copy_of mac_numbers
length_copy o = refl

-- what a rewrite that code holds comes to
pub bridged_in : (h : Held) → h.routed ≡ false → rewrite_in h ≡ bridged h.vlan
unfolding rewrite_in
bridged_in h p = simp p

pub kept_in : (d : Registers) (ingress : ℕ) (h : Held) (port : ℕ) (pop : Bool)
    → (h.routed || not (eqb port ingress)) && (eqb port 0 || is_up d port) ≡ is_kept d ingress (output_to (rewrite_in h) port pop)
unfolding is_kept rewrite_in
kept_in d ingress h port pop = by_test h.routed (λ p. simp p) (λ p. simp p)

module _ {d : Registers} {ingress n : ℕ} {o : Output} {before : List ℕ} where
  pub sends_kept : {after : List ℕ} → is_kept d ingress o ≡ true → after ≡ splice (output_numbers * n) (copy_of o) before → Sends d ingress o n (n + 1) before after
  sends_kept k e = record { count = simp k; list = simp k e }

  pub sends_not : is_kept d ingress o ≡ false → Sends d ingress o n n before before
  sends_not k = record { count = simp k; list = simp k }
