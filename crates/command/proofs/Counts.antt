-- The members of a group that is allowed: their count fits its field, and they are handed over where they are right for it.
-- Assumes nothing.
use Prim.Native.Nat.{ℕ, ◌<◌}
use mathlib.Core.Path.{◌≡◌, refl, ap, sym, ◌∙◌}
use mathlib.Core.Bool.{Bool, true, false, ◌&&◌}
use mathlib.Core.List.{List, []}
use native.Mathlib.Omega.{arith}
use lib.ListN.{length}
use lib.Dec.{leb, eqb}
use borrow.Author.Tests.{leb-true}
use Rattle.std.proofs.Common.{Option, Some, None, Result, Ok, Err}
use Rattle.std.specs.Option.{ok_or}
use Rattle.std.specs.Result.{result_ok}
use Rattle.rules.specs.Limits.{max_ports}
use Rattle.rules.specs.Fields.{value}
use Rattle.rules.specs.GroupId.{group_type, is_routing, group_id_allowed}
use Rattle.rules.specs.Members.{Collected, members_right, pad}
use Rattle.rules.specs.Decode.{header_of, members_of, group_allowed}
use Rattle.rules.specs.declared.Terms.{Terms}
use Rattle.rules.specs.declared.Status.{Status}
use Rattle.rules.proofs.Cases.{and_left, and_right, by_test, not_both}
use Rattle.members.specs.Listed.{listed}
use Rattle.command.specs.Answer.{lows_of}

clash : {G : Type 0} → ◌≡◌ {A = ℕ} 0 1 → G
clash e = absurd (omega arith)

pub right_count : (count : ℕ) (c : Collected) → members_right count c ≡ true → count < 256
unfolding members_right
right_count count c e =
    omega (arith, leb-true count max_ports (and_right (c.right && leb 1 count) (leb count max_ports) (and_left _ (eqb (length c.lows) count) e)))

and_false : (b : Bool) → b && false ≡ false
and_false true = refl
and_false false = refl

-- what is listed is right for its count
listed_some : (count : ℕ) (c : Collected) (l : List ℕ) → result_ok (listed count c) ≡ Some l → (l ≡ pad c.lows) × (members_right count c ≡ true)
unfolding listed
listed_some count c l e =
    by_test (members_right count c)
    (λ p. let q : ◌≡◌ {A = Option (List ℕ)} (Some (pad c.lows)) (Some l) = sym (rw p) ∙ e in (cc, p))
    (λ p. let q : ◌≡◌ {A = Option (List ℕ)} None (Some l) = sym (rw p) ∙ e in clash cc)

listed_none : (count : ℕ) (c : Collected) → result_ok (listed count c) ≡ None → members_right count c ≡ false
unfolding listed
listed_none count c e =
    by_test (members_right count c)
    (λ p. let q : ◌≡◌ {A = Option (List ℕ)} (Some (pad c.lows)) None = sym (rw p) ∙ e in clash cc)
    (λ p. p)

module _ (h : ℕ) (s : List ℕ) (id : ℕ) where
  members_none : eqb (group_type id) 0 ≡ true → members_of h s id ≡ record { right = true; lows = [] }
  unfolding members_of
  members_none z = rw z

  pub lows_some : (l : List ℕ) → lows_of h s id ≡ Some l
      → (l ≡ pad (members_of h s id).lows) × (eqb (group_type id) 0 ≡ false → is_routing (group_type id) ≡ false → members_right (value h s 12) (members_of h s id) ≡ true)
  unfolding lows_of
  lows_some l e =
      by_test (eqb (group_type id) 0)
      (λ z.
      let q : ◌≡◌ {A = Option (List ℕ)} (Some (pad [])) (Some l) = sym (rw z) ∙ e in
      let w : pad [] ≡ l = cc in
      (sym w ∙ sym (ap (λ (c : Collected). pad c.lows) (members_none z)), λ a b. not_both (sym z ∙ a)))
      (λ z. by_test (is_routing (group_type id))
      (λ w.
      let q : ◌≡◌ {A = Option (List ℕ)} (Some (pad (members_of h s id).lows)) (Some l) = sym (rw (z, w)) ∙ e in
      (cc, λ a b. not_both (sym w ∙ b)))
      (λ w.
      let p = listed_some (value h s 12) (members_of h s id) l (sym (rw (z, w)) ∙ e) in
      (p.0, λ a b. p.1)))

  pub lows_none : (terms : Terms) → h ≡ header_of terms → lows_of h s id ≡ None → group_allowed terms s id (members_of h s id) ≡ false
  unfolding lows_of group_allowed
  lows_none terms q e =
      by_test (eqb (group_type id) 0)
      (λ z. let r : ◌≡◌ {A = Option (List ℕ)} (Some (pad [])) None = sym (rw z) ∙ e in clash cc)
      (λ z. by_test (is_routing (group_type id))
      (λ w. let r : ◌≡◌ {A = Option (List ℕ)} (Some (pad (members_of h s id).lows)) None = sym (rw (z, w)) ∙ e in clash cc)
      (λ w.
      let n = listed_none (value h s 12) (members_of h s id) (sym (rw (z, w)) ∙ e) in
      rw (z, w, ← q, n) (and_false (group_id_allowed terms.version id))))

-- an option that is taken
pub taken_some : {A : Type 0} (o : Option A) (r : Result A Status) (e : Status) (x : A) → r ≡ ok_or o e → r ≡ Ok x → o ≡ Some x
taken_some (Some y) r e x p q = let w : ◌≡◌ {A = Result _ Status} (Ok y) (Ok x) = sym p ∙ q in cc
taken_some None r e x p q = let w : ◌≡◌ {A = Result _ Status} (Err e) (Ok x) = sym p ∙ q in clash cc

pub taken_none : {A : Type 0} (o : Option A) (r : Result A Status) (e f : Status) → r ≡ ok_or o e → r ≡ Err f → (o ≡ None) × (f ≡ e)
taken_none (Some y) r e f p q = let w : ◌≡◌ {A = Result _ Status} (Ok y) (Err f) = sym p ∙ q in clash cc
taken_none None r e f p q = let w : ◌≡◌ {A = Result _ Status} (Err e) (Err f) = sym p ∙ q in (refl, cc)
