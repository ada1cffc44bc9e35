-- What whoever calls `undo` has after an answer of 0: the claim of request 2026-06, of the bytes in the room.
-- Assumes nothing.
use Prim.Native.Nat.{ℕ}
use mathlib.Core.Path.{◌≡◌, refl, ap, sym, ◌∙◌}
use mathlib.Core.List.{List}
use Rattle.std.specs.Prelude.{Ok}
use Rattle.rules.specs.Undo.{undo, Undone as Outcome}
use Rattle.listing.specs.declared.Listed.{Listed}
use Rattle.encoded.specs.Admitted.{AreBytes}
use Rattle.undone.specs.Claim.{Told}
use Rattle.undone.proofs.Told.{told}
use Rattle.undoing.specs.Undoing.{Undone, told_by, Is}

pub given_back : (r : Undone) (after journal : List ℕ) (n : ℕ) (room : List ℕ) → Is r after (undo journal n room)
    → AreBytes journal → (l : Listed) → r ≡ Ok l → Told journal n (told_by r after)
given_back r after journal n room i bytes l e =
    let done : (told_by r after).answer ≡ 0 = unfold told_by in rw e refl in
    rw i (told journal n room bytes (ap (λ (t : Outcome). t.answer) (sym i) ∙ done))
