-- What a command's exits give, from what its search found. For any table.
-- Assumes nothing.
use Prim.Native.Nat.{ℕ, ◌<◌}
use mathlib.Core.Bool.{Bool, true, false}
use mathlib.Core.Path.{◌≡◌, refl, sym}
use mathlib.Core.List.{List}
use borrow.Author.Tests.{lt-leb, ne_eqb}
use Rattle.rules.specs.Answers.{code}
use Rattle.rules.specs.Keyed.{holds}
use Rattle.rules.specs.Tables.{add_status, held_status}
use Rattle.rules.specs.declared.Status.{Status}
use Rattle.rules.specs.declared.Status.TheVariants.{Ok}
use Rattle.tables.specs.Commands.{Changed}
use Rattle.tables.proofs.Search.{Sought}

module _ {T A : Type 0} (live : T → List A) {t : T} {effect : List A} where
  -- a status other than OK, and the table as it was
  pub refused : {rule : Status} (status : Status) → (code status ≡ 0 → ⊥) → status ≡ rule → Changed live t rule effect status t
  refused status n e = record { status_is = e; live_is = rw (← e, ne_eqb (code status) 0 n); kept = λ z. refl }

  pub done : {rule : Status} {t' : T} → Ok ≡ rule → live t' ≡ effect → Changed live t rule effect Ok t'
  unfolding code
  done e l = record { status_is = e; live_is = rw (← e) l; kept = λ z. absurd (z (sym e)) }

  module _ {key : A → ℕ} {slots k n at : ℕ} {held : Bool} (s : Sought key slots k n (live t) at held) where
    pub add_done : {t' : T} → held ≡ false → n < slots → live t' ≡ effect → Changed live t (add_status (holds key) slots k (live t)) effect Ok t'
    unfolding add_status
    add_done h f l = done (simp (s.holds_is, h, ← s.live, lt-leb _ _ f)) l

    pub held_done : {t' : T} → held ≡ true → live t' ≡ effect → Changed live t (held_status (holds key) k (live t)) effect Ok t'
    unfolding held_status
    held_done h l = done (simp (s.holds_is, h)) l
