-- What the ways out of a command give, from where its cookie stands: one law for each.
-- Assumes nothing.
use Prim.Native.Nat.{ℕ, zero, suc, ◌+◌, ◌-◌, ◌<◌, ◌≤◌}
use mathlib.Core.Bool.{Bool, true, false}
use mathlib.Core.Path.{◌≡◌, refl, ap, sym, ◌∙◌}
use mathlib.Core.List.{List, [], ◌∷◌, map, map-append}
use native.Mathlib.Omega.{arith}
use native.Mathlib.Numerals.{add-one}
use lib.ListN.{length, take, set, length-map, length-take}
use lib.Seq.{take-suc-set, take-set-lt}
use borrow.Author.Tests.{le-leb, lt-leb}
use Rattle.rules.specs.Answers.{code}
use Rattle.rules.specs.Keyed.{without}
use Rattle.rules.specs.Rows.{entry_in}
use Rattle.rules.specs.Places.{places, live}
use Rattle.rules.specs.Tables.{live_flows, add_status, held_status}
use Rattle.rules.specs.declared.FlowEntry.{FlowEntry}
use Rattle.rules.specs.declared.Status.TheVariants.{Ok, Enoent, Enomem, Eexist}
use Rattle.tables.proofs.Slots.{take_live}
use Rattle.tables.proofs.Commands.{refused, done}
use Rattle.plain.specs.Store.{Stands, Added, Modded, Deleted}
use Rattle.plain.proofs.Standing.{stands_lt, put_at, taken_at}

-- rows that change are entries that change
map_set : {A B : Type 0} (f : A → B) (l : List A) (i : ℕ) (a : A) → map f (set l i a) ≡ set (map f l) i (f a)
map_set f [] i a = refl
map_set f (x ∷ l) zero a = refl
map_set {B = B} f (x ∷ l) (suc i) a = ap {B = List B} (λ r. f x ∷ r) (map_set f l i a)

map_without : {A B : Type 0} (f : A → B) (i : ℕ) (l : List A) → map f (without i l) ≡ without i (map f l)
map_without f i [] = refl
map_without f zero (x ∷ l) = refl
map_without {B = B} f (suc i) (x ∷ l) = ap {B = List B} (λ r. f x ∷ r) (map_without f i l)

module _ {count : ℕ} {rows : List (List ℕ)} {n at : ℕ} {held : Bool} where
  -- so many rows are live
  live_rows : {k : ℕ} → Stands k n count rows at held → n ≡ length (take count rows)
  unfolding live
  live_rows s = s.live ∙ length-map (take count rows) entry_in

  -- a cookie that stands has a live place
  pub held_lt : {k : ℕ} → Stands k n count rows at held → held ≡ true → at < n
  held_lt {k} s h = omega (arith, s.place_is, s.live, stands_lt k (live_flows count rows) (s.stands_is ∙ h))

  module _ (e : FlowEntry) (s : Stands e.cookie n count rows at held) where
    pub twice : held ≡ true → Added (places count rows) e Eexist (places count rows)
    unfolding add_status code
    twice h = refused (live entry_in) Eexist (λ z. omega arith) (simp (s.stands_is, h))

    pub full : held ≡ false → 256 ≤ n → Added (places count rows) e Enomem (places count rows)
    unfolding add_status code
    full h f = refused (live entry_in) Enomem (λ z. omega arith) (simp (s.stands_is, h, ← s.live, le-leb _ _ f))

    pub added : (r : List ℕ) → entry_in r ≡ e → length rows ≡ 256 → held ≡ false → n < 256
        → Added (places count rows) e Ok (places (n + 1) (set rows n r))
    unfolding add_status live
    added r is z h f =
        done (live entry_in) (simp (s.stands_is, h, ← s.live, lt-leb _ _ f))
        (rw (add-one, take-suc-set rows n r (omega arith), ap (λ m. take m rows) (live_rows s) ∙ take_live count rows, map-append entry_in (take count rows) (r ∷ []), is) refl)

    pub modded : (r : List ℕ) → entry_in r ≡ e → held ≡ true → Modded (places count rows) e Ok (places count (set rows at r))
    unfolding held_status live
    modded r is h =
        let b = held_lt s h in
        done (live entry_in) (simp (s.stands_is, h))
        (ap (map entry_in) (take-set-lt count rows at r (omega (arith, live_rows s, length-take count rows)))
        ∙ map_set entry_in (take count rows) at r
        ∙ rw (is, s.place_is) (sym (put_at e (live_flows count rows))))

    pub not_there : held ≡ false → Modded (places count rows) e Enoent (places count rows)
    unfolding held_status code
    not_there h = refused (live entry_in) Enoent (λ z. omega arith) (simp (s.stands_is, h))

  module _ {k : ℕ} (s : Stands k n count rows at held) where
    pub deleted : (moved : List (List ℕ)) → held ≡ true → take (n - 1) moved ≡ without at (take n rows)
        → Deleted (places count rows) k Ok (places (n - 1) moved)
    unfolding held_status live
    deleted moved h o =
        let x : take (n - 1) moved ≡ without at (take count rows) =
        o ∙ ap (without at) (ap (λ m. take m rows) (live_rows s) ∙ take_live count rows) in
        done (live entry_in) (simp (s.stands_is, h))
        (ap (map entry_in) x
        ∙ map_without entry_in at (take count rows)
        ∙ rw s.place_is (sym (taken_at k (live_flows count rows))))

    pub absent : held ≡ false → Deleted (places count rows) k Enoent (places count rows)
    unfolding held_status code
    absent h = refused (live entry_in) Enoent (λ z. omega arith) (simp (s.stands_is, h))
