-- Where a frame may go: each output's port is the host or is up, and is not the port that the frame came in on unless it is routed. For any
-- registers, deciding flows, groups, port and frame.
-- Assumes nothing.
use Prim.Native.Nat.{ℕ}
use mathlib.Core.Bool.{true, false, not, ◌||◌}
use mathlib.Core.Logic.{◌⊎◌, inl, inr}
use mathlib.Core.List.{List, [], ◌∷◌}
use mathlib.Core.Path.{◌≡◌}
use lib.Dec.{eqb}
use borrow.Author.Tests.{eqb-false, not-true}
use Rattle.rules.specs.Registers.{is_up}
use Rattle.rules.specs.Frame.{Decider, Output, way, exit_outputs, is_kept, keep, outputs}
use Rattle.rules.specs.declared.Registers.{Registers}
use Rattle.rules.specs.declared.GroupEntry.{GroupEntry}
use Rattle.rules.proofs.Cases.{by_test, by_eq, and_left, and_right}

module _ {A : Type 0} (P : A → Type 0) where
  abbrev pub All : List A → Type 0
  All [] = Unit
  All (x ∷ xs) = P x × All xs

module _ (d : Registers) (ingress : ℕ) where
  -- what is not "left out"
  abbrev pub MayLeave : Output → Type 0
  MayLeave o = ((o.port ≡ 0) ⊎ (is_up d o.port ≡ true)) × (o.rewrite.routed ≡ false → o.port ≡ ingress → ⊥)

  kept_is_elsewhere : (o : Output) → is_kept d ingress o ≡ true → o.rewrite.routed ≡ false → o.port ≡ ingress → ⊥
  unfolding is_kept
  kept_is_elsewhere o e r =
      let h : o.rewrite.routed || not (eqb o.port ingress) ≡ true = and_left _ (eqb o.port 0 || is_up d o.port) e in
      eqb-false o.port ingress (not-true _ (simp r at h))

  kept_is_up : (o : Output) → is_kept d ingress o ≡ true → (o.port ≡ 0) ⊎ (is_up d o.port ≡ true)
  unfolding is_kept
  kept_is_up o e =
      let h : eqb o.port 0 || is_up d o.port ≡ true = and_right (o.rewrite.routed || not (eqb o.port ingress)) _ e in
      by_eq o.port 0 (λ z p. inl z) (λ z p. inr (simp p at h))

  all_kept : (os : List Output) → All MayLeave (keep d ingress os)
  unfolding keep
  all_kept [] = tt
  all_kept (o ∷ os) = by_test (is_kept d ingress o) (λ p. simp p ((kept_is_up o p, kept_is_elsewhere o p), all_kept os)) (λ p. simp p (all_kept os))

  -- THE LAW
  pub outputs_may : (decides : Decider) (groups : List GroupEntry) (f : List ℕ) → All MayLeave (outputs d decides groups ingress f)
  unfolding outputs
  outputs_may decides groups f =
      by_test (is_up d ingress)
      (λ p. simp p (all_kept (exit_outputs groups (way decides ingress f))))
      (λ p. simp p tt)
