-- The search by halves: how often the rules may halve does not matter once it is enough, so a loop that halves is the rules' search.
-- Assumes nothing.
use Prim.Native.Nat.{ℕ, zero, suc, ◌+◌, ◌-◌, ◌/◌, ◌<◌, ◌≤◌}
use mathlib.Core.Bool.{Bool, true, false}
use mathlib.Core.Path.{◌≡◌, refl, ap, sym, ◌∙◌}
use mathlib.Core.List.{List}
use native.Mathlib.Omega.{arith}
use borrow.Author.Tests.{lt-ltb, le-ltb}
use lib.ListN.{length, get_or}
use Rattle.rules.specs.Engine.{is_before, halved, slot_of}
use Rattle.rules.specs.declared.FlowEntry.{FlowEntry}
use Rattle.rules.proofs.Cases.{by_lt, by_test}

module _ (before : ℕ → Bool) where
  enough : (n m low high : ℕ) → high - low ≤ n → high - low ≤ m → halved before n low high ≡ halved before m low high
  unfolding halved
  enough zero zero low high h k = refl
  enough zero (suc m) low high h k = simp (le-ltb low high (omega arith))
  enough (suc n) zero low high h k = simp (le-ltb low high (omega arith))
  enough (suc n) (suc m) low high h k =
      by_lt low high
      (λ b p.
      by_test (before ((low + high) / 2))
      (λ t. simp (p, t) (enough n m ((low + high) / 2 + 1) high (omega arith) (omega arith)))
      (λ t. simp (p, t) (enough n m low ((low + high) / 2) (omega arith) (omega arith))))
      (λ b p. simp p)

  -- one halving
  to_upper : (n low high : ℕ) → low < high → high - low ≤ n → before ((low + high) / 2) ≡ true
      → halved before n low high ≡ halved before (high - ((low + high) / 2 + 1)) ((low + high) / 2 + 1) high
  unfolding halved
  to_upper zero low high b h t = absurd (omega arith)
  to_upper (suc n) low high b h t =
      simp (lt-ltb _ _ b, t) (enough n (high - ((low + high) / 2 + 1)) ((low + high) / 2 + 1) high (omega arith) (omega arith))

  to_lower : (n low high : ℕ) → low < high → high - low ≤ n → before ((low + high) / 2) ≡ false
      → halved before n low high ≡ halved before ((low + high) / 2 - low) low ((low + high) / 2)
  unfolding halved
  to_lower zero low high b h t = absurd (omega arith)
  to_lower (suc n) low high b h t =
      simp (lt-ltb _ _ b, t) (enough n ((low + high) / 2 - low) low ((low + high) / 2) (omega arith) (omega arith))

  at_end : (n low high : ℕ) → high ≤ low → halved before n low high ≡ low
  unfolding halved
  at_end zero low high h = refl
  at_end (suc n) low high h = simp (le-ltb _ _ h)

-- whether the flow in a slot precedes e
abbrev passes : List FlowEntry → List ℕ → FlowEntry → ℕ → Bool
passes flows places e i = is_before flows e (get_or places i 0)

-- In an order, the search for the slot of e has come to those from low up to high
pub record Halving (flows : List FlowEntry) (order : List ℕ) (e : FlowEntry) (low high : ℕ) : Type 0 where
  pub rises : low ≤ high
  pub inside : high ≤ length order
  pub rest : halved (passes flows order e) (length order) 0 (length order) ≡ halved (passes flows order e) (high - low) low high

module _ {flows : List FlowEntry} {order : List ℕ} {e : FlowEntry} where
  pub begin : Halving flows order e 0 (length order)
  begin = record { rises = omega arith; inside = omega arith; rest = ap (λ (m : ℕ). halved (passes flows order e) m 0 (length order)) (omega arith) }

  module _ {low high : ℕ} (s : Halving flows order e low high) where
    module _ {b : Bool} (h : low < high) (is : b ≡ is_before flows e (get_or order ((low + high) / 2) 0)) where
      pub upper : b ≡ true → Halving flows order e ((low + high) / 2 + 1) high
      upper t =
          record {
            rises = omega arith;
            inside = s.inside;
            rest = s.rest ∙ to_upper (passes flows order e) (high - low) low high h (omega arith) (sym is ∙ t);
          }

      pub lower : b ≡ false → Halving flows order e low ((low + high) / 2)
      lower t =
          record {
            rises = omega arith;
            inside = omega arith;
            rest = s.rest ∙ to_lower (passes flows order e) (high - low) low high h (omega arith) (sym is ∙ t);
          }

    pub end : high ≤ low → (low ≡ slot_of flows order e) × (low ≤ length order)
    unfolding slot_of
    end h = (rw s.rest (sym (at_end (passes flows order e) (high - low) low high h)), omega arith)
