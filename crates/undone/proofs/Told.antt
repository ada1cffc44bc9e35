-- The rule's call read back: an answer of 0 comes from a journal that replays, with n records, and a room that has place for the list.
-- Assumes nothing.
use Prim.Native.Nat.{ℕ, ◌≤◌}
use mathlib.Core.Path.{◌≡◌, refl}
use mathlib.Core.List.{List}
use native.Mathlib.Omega.{arith}
use lib.ListN.{length, take}
use Rattle.rules.specs.Tables.{Tables}
use Rattle.rules.specs.Journal.{Progress, Replayed, replay}
use Rattle.rules.specs.Journal.Replayed.{Replays, Fails}
use Rattle.rules.specs.Undo.{first_records, tables_in, tables_then, payloads, listed, refused_undo, written_undo, fitted, undo_from, undo}
use Rattle.rules.proofs.Cases.{by_lt}
use Rattle.rules.proofs.Bytes.{take_splice}
use Rattle.encoded.specs.Admitted.{AreBytes}
use Rattle.undone.specs.Carried.{taken_from}
use Rattle.undone.specs.Claim.{Told}
use Rattle.undone.proofs.Faults.{fault_number}
use Rattle.undone.proofs.Claim.{undone}

-- what a good replay answers 0 for
enough : (p : Progress) (n : ℕ) (t : Tables) (room : List ℕ) → (undo_from (Replays p) n t room).answer ≡ 0 → (n ≤ p.records) × (length (listed (payloads t p.tables)) ≤ length room)
unfolding undo_from fitted refused_undo
enough p n t room e =
    by_lt p.records n
    (λ h q. absurd (let z = simp q at e in omega arith))
    (λ h q. by_lt (length room) (length (listed (payloads t p.tables)))
    (λ k r. absurd (let z = simp (q, r) at e in omega arith))
    (λ k r. (h, k)))

-- the earlier tables are those of the claim
then_is : (journal : List ℕ) (n : ℕ) (p : Progress) → replay (first_records n journal) ≡ Replays p → tables_then n journal ≡ p.tables
unfolding tables_then tables_in
then_is journal n p e = rw e

-- what was written is taken back
taken : (ps : List (List ℕ)) (room : List ℕ) → taken_from (length ps) (listed ps) ≡ ps
    → taken_from (written_undo ps room).count (take (written_undo ps room).size (written_undo ps room).room) ≡ ps
unfolding written_undo
taken ps room e = rw (take_splice (listed ps) room) e

module _ (journal : List ℕ) (n : ℕ) (room : List ℕ) (bytes : AreBytes journal) where
  from_replay : (p : Progress) → replay journal ≡ Replays p → (undo_from (Replays p) n (tables_then n journal) room).answer ≡ 0
      → Told journal n (undo journal n room)
  from_replay p r e =
      let k = enough p n (tables_then n journal) room e in
      let g = undone journal n p bytes r k.0 in
      let fits : length (listed (payloads g.earlier.tables p.tables)) ≤ length room = rw (← then_is journal n g.earlier g.first_replays) k.1 in
      let u = g.list_is room fits in
      record {
        now = p;
        replays = r;
        enough = k.0;
        claim = g;
        payloads_are = rw u (taken (payloads g.earlier.tables p.tables) room g.reads_back);
      }

  by_replay : (o : Replayed) → replay journal ≡ o → (undo_from o n (tables_then n journal) room).answer ≡ 0 → Told journal n (undo journal n room)
  unfolding undo_from refused_undo
  by_replay (Replays p) r e = from_replay p r e
  by_replay (Fails answer at) r e = absurd (fault_number journal answer at r e)

  -- THE LAW
  pub told : (undo journal n room).answer ≡ 0 → Told journal n (undo journal n room)
  unfolding undo
  told e = by_replay (replay journal) refl e
