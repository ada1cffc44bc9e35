-- Numbers written one after another, each that of its position.
-- Assumes nothing.
use Prim.Native.Nat.{ℕ, ◌+◌, ◌≤◌, ◌<◌}
use mathlib.Core.Path.{◌≡◌, refl, ◌∙◌}
use mathlib.Core.Bool.{Bool, true, false}
use mathlib.Core.List.{List}
use native.Mathlib.Omega.{arith}
use lib.ListN.{length, get_or, set, length-set}
use lib.Seq.{get_or-set_same}
use lib.Dec.{ltb}
use borrow.Author.Tests.{ltb-true, ltb-false}
use borrow.Author.Rules.{read_below}

-- what f gives has been written up to i
pub record Filled (f : ℕ → ℕ) (before : List ℕ) (i : ℕ) (out : List ℕ) : Type 0 where
  pub size : length out ≡ length before
  pub within : i ≤ length before
  pub each : (j : ℕ) → j < i → get_or out j 0 ≡ f j

module _ {f : ℕ → ℕ} {before : List ℕ} where
  pub fill_starts : Filled f before 0 before
  fill_starts = record { size = refl; within = omega arith; each = λ j h. omega arith }

  module _ {i : ℕ} {out : List ℕ} (w : Filled f before i out) (k : i < length out) where
    at : (j : ℕ) (t : Bool) → ltb j i ≡ t → j < i + 1 → get_or (set out i (f i)) j 0 ≡ f j
    at j true e h = read_below ℕ out i j (f i) 0 (f j) (ltb-true j i e) (w.each j (ltb-true j i e))
    at j false e h =
        let q : j ≡ i = omega (arith, ltb-false j i e) in
        rw q (get_or-set_same out i (f i) 0 k)

    pub fill_goes_on : Filled f before (i + 1) (set out i (f i))
    fill_goes_on =
        record {
          size = length-set out i (f i) ∙ w.size;
          within = omega (arith, w.size);
          each = λ j h. at j (ltb j i) refl h;
        }

  pub fill_ends : {i : ℕ} {out : List ℕ} → Filled f before i out → length out ≤ i → (j : ℕ) → j < length out → get_or out j 0 ≡ f j
  fill_ends w h j l = w.each j (omega arith)
