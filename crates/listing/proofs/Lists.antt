-- Lists of payloads, one behind another: what two parts add is what both add, written at the end of what was there.
-- Assumes nothing.
use Prim.Native.Nat.{ℕ, ◌+◌, ◌≤◌}
use mathlib.Core.Path.{◌≡◌, refl, ap, sym, ◌∙◌, subst}
use mathlib.Core.List.{List, [], ◌∷◌, ◌++◌, append_assoc, append-nil}
use native.Mathlib.Omega.{arith}
use lib.ListN.{length, length-append}
use Rattle.rules.specs.Bytes.{bytes_of}
use Rattle.rules.specs.Undo.{listed}
use Rattle.rules.proofs.Bytes.{length_bytes_of, splice_nil}
use Rattle.journal.proofs.Writing.{splice_on}
use Rattle.listing.specs.Listing.{Adds, Lists}
use Rattle.listing.specs.declared.Listed.{Listed}

listed_append : (ps qs : List (List ℕ)) → listed (ps ++ qs) ≡ listed ps ++ listed qs
unfolding listed
listed_append [] qs = refl
listed_append (p ∷ ps) qs =
    rw (listed_append ps qs, append_assoc (bytes_of 2 (length p)) (p ++ listed ps) (listed qs), append_assoc p (listed ps) (listed qs)) refl

-- no payload
pub lists_none : (r : Listed) (most : ℕ) (s : List ℕ) → Lists r r s [] most s
unfolding listed
lists_none r most s =
    record { count_is = omega arith; size_is = omega arith; few = omega arith; at_most = omega arith; kept = refl; written = λ h. sym (splice_nil r.size s) }

-- one payload
pub lists_one : {r so_far : Listed} {p after before : List ℕ} → Adds r so_far after p before → Lists r so_far after (p ∷ []) 1 before
unfolding listed
lists_one {r} {so_far} {p} {after} {before} a =
    let e : bytes_of 2 (length p) ++ (p ++ []) ≡ bytes_of 2 (length p) ++ p = rw append-nil refl in
    record {
      count_is = a.count_is;
      size_is = a.size_is ∙ rw (e, length-append (bytes_of 2 (length p)) p, length_bytes_of 2 (length p)) refl;
      few = omega arith;
      at_most = omega (arith, a.at_most);
      kept = a.kept;
      written = λ h. rw e (a.written h);
    }

-- where no payload is added, none is counted
pub lists_nothing : {r so_far : Listed} {after before : List ℕ} {ps : List (List ℕ)} {most : ℕ} → Lists r so_far after ps most before → ps ≡ []
    → Lists r so_far after ps 0 before
unfolding listed
lists_nothing {r} {so_far} l e =
    let z : r.size ≡ so_far.size + length (listed []) = subst (λ x. r.size ≡ so_far.size + length (listed x)) e l.size_is in
    record {
      count_is = l.count_is;
      size_is = l.size_is;
      few = rw e (omega arith);
      at_most = omega arith;
      kept = l.kept;
      written = l.written;
    }

-- two parts
pub lists_on : {m so_far r : Listed} {before mid after : List ℕ} {ps qs : List (List ℕ)} {a b : ℕ}
    → Lists m so_far mid ps a before → Lists r m after qs b mid → Lists r so_far after (ps ++ qs) (a + b) before
lists_on {m} {so_far} {r} {before} {mid} {after} {ps} {qs} {a} {b} x y =
    let z : length (listed (ps ++ qs)) ≡ length (listed ps) + length (listed qs) =
    ap length (listed_append ps qs) ∙ length-append (listed ps) (listed qs) in
    record {
      count_is = omega (arith, x.count_is, y.count_is, length-append ps qs);
      size_is = omega (arith, x.size_is, y.size_is);
      few = omega (arith, x.few, y.few, length-append ps qs);
      at_most = omega (arith, x.at_most, y.at_most);
      kept = y.kept ∙ x.kept;
      written = λ h.
          y.written (omega (arith, x.kept))
          ∙ rw (x.written (omega (arith, y.size_is)), x.size_is, listed_append ps qs)
          (splice_on so_far.size (listed ps) (listed qs) before (omega (arith, x.size_is, y.size_is)));
    }

-- a larger bound
pub lists_within : {r so_far : Listed} {after before : List ℕ} {ps : List (List ℕ)} {a : ℕ} (b : ℕ) → a ≤ b → Lists r so_far after ps a before
    → Lists r so_far after ps b before
lists_within b h l =
    record { count_is = l.count_is; size_is = l.size_is; few = omega (arith, l.few); at_most = omega (arith, l.at_most); kept = l.kept; written = l.written }
