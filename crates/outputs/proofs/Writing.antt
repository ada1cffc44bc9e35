-- Outputs written into a list one after the other, those that are left out skipped.
-- Assumes nothing.
use Prim.Native.Nat.{ℕ, ◌+◌, ◌*◌, ◌<◌, ◌≤◌}
use mathlib.Core.Path.{◌≡◌, refl, sym, ◌∙◌}
use mathlib.Core.List.{List, [], ◌∷◌}
use native.Mathlib.Omega.{arith}
use lib.ListN.{length}
use borrow.Author.Tests.{lt-ltb, le-ltb}
use Rattle.rules.specs.Limits.{output_numbers, list_numbers}
use Rattle.rules.specs.Bytes.{splice}
use Rattle.rules.specs.Frame.{Output, is_kept, keep, copy_of, numbers_of, list_after}
use Rattle.rules.specs.declared.Registers.{Registers}
use Rattle.rules.proofs.Bytes.{splice_append, splice_nil, length_splice}
use Rattle.rules.proofs.Cases.{by_test}
use Rattle.copies.specs.Copies.{Sends}
use Rattle.copies.proofs.Copying.{length_copy}
use Rattle.outputs.specs.Outputs.{with_room, Lists}

-- a list with an output as its n-th
abbrev with_output : Output → ℕ → List ℕ → List ℕ
with_output o n l = splice (output_numbers * n) (copy_of o) l

splice_output : (o : Output) (os : List Output) (n : ℕ) (l : List ℕ) → output_numbers * n + output_numbers ≤ length l
    → splice (output_numbers * n) (numbers_of (o ∷ os)) l ≡ splice (output_numbers * (n + 1)) (numbers_of os) (with_output o n l)
unfolding numbers_of
splice_output o os n l h =
    let k = length_copy o in
    let e : output_numbers * n + length (copy_of o) ≡ output_numbers * (n + 1) = omega arith in
    rw (splice_append (output_numbers * n) (copy_of o) (numbers_of os) l (omega arith), e)

-- ---- What is written so far

-- After n outputs the list is l, and those of `rest` are left of os, which go over l₀
pub record Writing (os : List Output) (l₀ : List ℕ) (rest : List Output) (n : ℕ) (l : List ℕ) : Type 0 where
  pub counted : n + length rest ≡ length os
  pub listed : splice (output_numbers * n) (numbers_of rest) l ≡ list_after os l₀
  pub sized : length l ≡ length l₀

pub writing_starts : (os : List Output) (l₀ : List ℕ) → Writing os l₀ os 0 l₀
unfolding list_after
writing_starts os l₀ = record { counted = omega arith; listed = refl; sized = refl }

pub writing_ends : {os : List Output} {l₀ : List ℕ} {n : ℕ} {l : List ℕ} → Writing os l₀ [] n l → Lists os n l₀ l
unfolding numbers_of
writing_ends {n = n} {l = l} w = record { count = omega arith; list = sym (splice_nil (output_numbers * n) l) ∙ w.listed }

written : {os : List Output} {l₀ : List ℕ} {o : Output} {rest : List Output} {n : ℕ} {l : List ℕ}
    → Writing os l₀ (o ∷ rest) n l → output_numbers * n + output_numbers ≤ length l → Writing os l₀ rest (n + 1) (with_output o n l)
written {o = o} {rest = rest} {n = n} {l = l} w h =
    let k = length_copy o in
    record {
      counted = omega arith;
      listed = sym (splice_output o rest n l h) ∙ w.listed;
      sized = length_splice (output_numbers * n) (copy_of o) l (omega arith) ∙ w.sized;
    }

-- one output sent, or left out
pub writing_sent : {d : Registers} {ingress : ℕ} {os : List Output} {l₀ : List ℕ} {o : Output} (rest : List Output) {n r : ℕ} {l l' : List ℕ}
    → Writing os l₀ (keep d ingress (o ∷ rest)) n l → output_numbers * n + output_numbers ≤ length l → Sends d ingress o n r l l'
    → Writing os l₀ (keep d ingress rest) r l' × (r ≤ n + 1)
unfolding keep
writing_sent {d} {ingress} {os} {l₀} {o} rest {n} {r} {l} {l'} w h s =
    by_test (is_kept d ingress o)
    (λ p. let e : r ≡ n + 1 = simp p at s.count in
    let f : l' ≡ with_output o n l = simp p at s.list in
    rw (e, f) (written (simp p at w) h, omega arith))
    (λ p. let e : r ≡ n = simp p at s.count in
    let f : l' ≡ l = simp p at s.list in
    rw (e, f) (simp p at w, omega arith))

-- nothing to write
pub lists_none : (l : List ℕ) → Lists [] 0 l l
unfolding list_after numbers_of
lists_none l = record { count = refl; list = sym (splice_nil 0 l) }

pub no_room : (os : List Output) (l : List ℕ) → length l < list_numbers → Lists (with_room l os) 0 l l
unfolding with_room
no_room os l h = simp (lt-ltb (length l) list_numbers h) (lists_none l)

pub room : (os : List Output) (l : List ℕ) → list_numbers ≤ length l → with_room l os ≡ os
unfolding with_room
room os l h = simp (le-ltb (length l) list_numbers h)
