-- A payload behind its length: two writings, one right behind the other, are one.
-- Assumes nothing.
use Prim.Native.Nat.{ℕ, ◌+◌, ◌<◌, ◌≤◌}
use mathlib.Core.Path.{◌≡◌, ap, sym, ◌∙◌, subst}
use mathlib.Core.List.{List, ◌++◌}
use native.Mathlib.Omega.{arith}
use lib.ListN.{length, take, length-append}
use Rattle.rules.specs.Bytes.{bytes_of, splice}
use Rattle.rules.proofs.Bytes.{length_bytes_of, take_splice}
use Rattle.wire.specs.Put.{put}
use Rattle.journal.proofs.Writing.{splice_on, put_inside}
use Rattle.encoding.specs.Writing.{Puts}
use Rattle.encoding.proofs.Splicing.{length_splice}
use Rattle.listing.specs.Listing.{Adds}
use Rattle.listing.specs.declared.Listed.{Listed}

-- the number and the payload, written one after the other
pub two_writings : (at : ℕ) (payload s t u : List ℕ) → at + 2 + length payload ≤ length s → t ≡ put at 2 (length payload) s
    → u ≡ splice (at + 2) payload t → u ≡ splice at (bytes_of 2 (length payload) ++ payload) s
two_writings at payload s t u h p q =
    let two : length (bytes_of 2 (length payload)) ≡ 2 = length_bytes_of 2 (length payload) in
    let first : t ≡ splice at (bytes_of 2 (length payload)) s = p ∙ put_inside at 2 (length payload) s (omega arith) in
    q
    ∙ rw first
    (ap (λ (n : ℕ). splice (at + n) payload (splice at (bytes_of 2 (length payload)) s)) (sym two)
    ∙ splice_on at (bytes_of 2 (length payload)) payload s (omega arith))

module _ (r so_far : Listed) (payload before : List ℕ) (count_is : r.count ≡ so_far.count + 1) (size_is : r.size ≡ so_far.size + 2 + length payload) (small : length payload ≤ 1056) where
  pub adds_written : {mid after : List ℕ} → so_far.size + 2 + length payload ≤ length before → mid ≡ put so_far.size 2 (length payload) before
      → after ≡ splice (so_far.size + 2) payload mid → Adds r so_far after payload before
  adds_written {mid} {after} h p q =
      let w : after ≡ splice so_far.size (bytes_of 2 (length payload) ++ payload) before = two_writings so_far.size payload before mid after h p q in
      record {
        count_is = count_is;
        size_is = omega arith;
        at_most = omega arith;
        kept = rw w (length_splice so_far.size (bytes_of 2 (length payload) ++ payload) before (omega arith) (omega (arith, length-append (bytes_of 2 (length payload)) payload, length_bytes_of 2 (length payload))));
        written = λ i. w;
      }

  pub adds_only_counted : length before < so_far.size + 2 + length payload → Adds r so_far before payload before
  adds_only_counted h =
      record { count_is = count_is; size_is = omega arith; at_most = omega arith; kept = omega arith; written = λ i. absurd (omega arith) }

-- ---- A payload that was written at the start of a buffer

module _ {n most : ℕ} {buffer bytes fresh : List ℕ} (p : Puts n buffer 0 bytes fresh most) where
  pub front_is : take n buffer ≡ bytes
  front_is = let z : n ≡ length bytes = omega (arith, p.end_is) in rw (z, p.buffer_is) (take_splice bytes fresh)

  pub front_length : n ≡ length (take n buffer)
  front_length = rw front_is (omega (arith, p.end_is))

  pub front_few : length (take n buffer) ≤ most
  front_few = omega (arith, front_length, p.at_most)

  pub adds_front : {r so_far : Listed} {after before : List ℕ} → Adds r so_far after (take n buffer) before → Adds r so_far after bytes before
  adds_front {r} {so_far} {after} {before} a = subst (λ b. Adds r so_far after b before) front_is a
