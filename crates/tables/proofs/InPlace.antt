-- What the ways out of a command give on a table that is lent, from what its search found among the rows: one law for each way out.
-- The table t is of any type; its live entries are the first `count` rows, read as entries.
-- Assumes nothing.
use Prim.Native.Nat.{ℕ, ◌+◌, ◌-◌, ◌<◌}
use mathlib.Core.Bool.{Bool, true, false}
use mathlib.Core.Path.{◌≡◌, ap, sym, ◌∙◌, subst}
use mathlib.Core.List.{List, map}
use lib.ListN.{length, take, set, length-map}
use Rattle.rules.specs.Keyed.{insert_at, without, holds, insert, replace, remove}
use Rattle.rules.specs.Answers.{code}
use Rattle.rules.specs.Places.{places, live}
use Rattle.rules.specs.Tables.{add_status, held_status}
use Rattle.rules.specs.declared.Status.TheVariants.{Ok}
use Rattle.rules.proofs.Mapped.{row_key, map_holds, map_position, map_insert, map_replace, map_remove}
use Rattle.std.specs.Prelude.{Err}
use Rattle.rules.specs.declared.Status.{Status}
use Rattle.tables.specs.Commands.{Changed, Added, Modded, Deleted, place_of, free_place_of, held_place_of}
use Rattle.tables.proofs.Search.{Sought, inserted, replaced, removed, free_fails, held_fails}
use Rattle.tables.proofs.Commands.{refused, add_done, held_done}

-- what was sought among the rows was sought among the entries, and the other way
module _ {R A : Type 0} (read : R → A) (key : A → ℕ) {slots k n at : ℕ} {l : List R} {held : Bool} where
  pub map_sought : Sought (row_key read key) slots k n l at held → Sought key slots k n (map read l) at held
  map_sought s =
      record {
        position_is = s.position_is ∙ sym (map_position read key k l);
        holds_is = map_holds read key k l ∙ s.holds_is;
        live = s.live ∙ sym (length-map l read);
        inside = s.inside;
        within = s.within;
      }

  pub unmap_sought : Sought key slots k n (map read l) at held → Sought (row_key read key) slots k n l at held
  unmap_sought s =
      record {
        position_is = s.position_is ∙ map_position read key k l;
        holds_is = sym (map_holds read key k l) ∙ s.holds_is;
        live = s.live ∙ length-map l read;
        inside = s.inside;
        within = s.within;
      }

module _ {T R A : Type 0} (live_in : T → List A) (read : R → A) (key : A → ℕ) (slots : ℕ) (t : T) (count : ℕ) (rows : List R) (is : live_in t ≡ live read (places count rows)) {n at : ℕ} {held : Bool} where
  -- the search, as the rules see the table
  seen : {k : ℕ} → Sought (row_key read key) slots k n (take count rows) at held → Sought key slots k n (live_in t) at held
  unfolding live
  seen {k} s = subst (λ l. Sought key slots k n l at held) (sym is) (map_sought read key s)

  module _ {e : A} (r : R) (holds : read r ≡ e) (s : Sought (row_key read key) slots (key e) n (take count rows) at held) where
    -- the search was for the key of the row that is put in
    keyed : Sought (row_key read key) slots (key (read r)) n (take count rows) at held
    keyed = subst (λ k. Sought (row_key read key) slots k n (take count rows) at held) (sym (ap key holds)) s

    pub modded : {t' : T} → live_in t' ≡ live read (places count (set rows at r)) → held ≡ true → Modded live_in key slots t e Ok t'
    unfolding live
    modded is' h =
        held_done live_in (seen s) h
        (is'
        ∙ ap (map read) (replaced (row_key read key) count rows r keyed h)
        ∙ map_replace read key r (take count rows)
        ∙ ap (λ x. replace key x (map read (take count rows))) holds
        ∙ ap (replace key e) (sym is))

    pub added : {t' : T} (rows' : List R) → live_in t' ≡ live read (places (n + 1) rows') → held ≡ false → n < slots
        → take (n + 1) rows' ≡ insert_at at r (take n rows) → Added live_in key slots t e Ok t'
    unfolding live
    added rows' is' h f o =
        add_done live_in (seen s) h f
        (is'
        ∙ ap (map read) (inserted (row_key read key) count rows rows' r keyed o)
        ∙ map_insert read key r (take count rows)
        ∙ ap (λ x. insert key x (map read (take count rows))) holds
        ∙ ap (insert key e) (sym is))

  module _ {k : ℕ} (s : Sought (row_key read key) slots k n (take count rows) at held) where
    pub deleted : {t' : T} (rows' : List R) → live_in t' ≡ live read (places (n - 1) rows') → held ≡ true
        → take (n - 1) rows' ≡ without at (take n rows) → Deleted live_in key slots t k Ok t'
    unfolding live
    deleted rows' is' h o =
        held_done live_in (seen s) h
        (is'
        ∙ ap (map read) (removed (row_key read key) count (n - 1) rows rows' s h o)
        ∙ map_remove read key k (take count rows)
        ∙ ap (remove key k) (sym is))

-- the searches of a command that fail: the error is the status that the rules give
module _ {T R A : Type 0} (live_in : T → List A) (read : R → A) (key : A → ℕ) (slots : ℕ) (t : T) (count : ℕ) (rows : List R) (is : live_in t ≡ live read (places count rows)) (k : ℕ) (e : Status) where
  pub free_status : length rows ≡ slots → Err e ≡ free_place_of (row_key read key) (length rows) k (take count rows)
      → (e ≡ add_status (holds key) slots k (live_in t)) × (code e ≡ 0 → ⊥)
  unfolding live place_of
  free_status size f =
      let m : Err e ≡ free_place_of key slots k (live_in t) =
      rw (is, map_holds read key k (take count rows), map_position read key k (take count rows), length-map (take count rows) read) (rw size at f) in
      free_fails key slots k (live_in t) e m

  pub held_status_is : Err e ≡ held_place_of (row_key read key) k (take count rows)
      → (e ≡ held_status (holds key) k (live_in t)) × (code e ≡ 0 → ⊥)
  unfolding live place_of
  held_status_is f =
      let m : Err e ≡ held_place_of key k (live_in t) =
      rw (is, map_holds read key k (take count rows), map_position read key k (take count rows)) f in
      held_fails key k (live_in t) e m

  module _ {effect : List A} where
    pub not_free : length rows ≡ slots → Err e ≡ free_place_of (row_key read key) (length rows) k (take count rows)
        → Changed live_in t (add_status (holds key) slots k (live_in t)) effect e t
    not_free size f = let g = free_status size f in refused live_in e g.1 g.0

    pub absent : Err e ≡ held_place_of (row_key read key) k (take count rows)
        → Changed live_in t (held_status (holds key) k (live_in t)) effect e t
    absent f = let g = held_status_is f in refused live_in e g.1 g.0
