-- The group table's two arrays: what the laws of one array say of the pairs, they say of both.
-- Assumes nothing.
use Prim.Native.Nat.{ℕ, zero, suc}
use mathlib.Core.Path.{◌≡◌, refl, ap, sym, ◌∙◌}
use mathlib.Core.List.{List, [], ◌∷◌}
use native.Mathlib.Omega.{arith}
use lib.ListN.{length, take, set, length-take, length-map}
use Rattle.rules.specs.Keyed.{insert_at, without, position, holds}
use Rattle.rules.specs.Rows.{GroupRows, beside, id_in, group_in}
use Rattle.rules.specs.Places.{places, live}
use Rattle.rules.specs.Tables.{id_of}
use Rattle.rules.proofs.Mapped.{row_key, map_holds, map_position}
use Rattle.rules.proofs.Rows.{set_beside, length_beside, head_of, heads_of}
use Rattle.tables.specs.Commands.{place_of, free_place_of, held_place_of}
use Rattle.tables.specs.Groups.{group_places, groups_in}

-- what was sought among the heads was sought among the groups
module _ (count k : ℕ) (hs ms : List (List ℕ)) (even : length hs ≡ length ms) where
  pairs : List GroupRows
  pairs = take count (beside hs ms)

  same_holds : holds id_in k (take count hs) ≡ holds (row_key group_in id_of) k pairs
  unfolding pairs group_in
  same_holds = rw (← heads_of count hs ms even) (map_holds head_of id_in k (take count (beside hs ms)))

  same_position : position id_in k (take count hs) ≡ position (row_key group_in id_of) k pairs
  unfolding pairs group_in
  same_position = rw (← heads_of count hs ms even) (map_position head_of id_in k (take count (beside hs ms)))

  same_length : length (take count hs) ≡ length pairs
  unfolding pairs
  same_length = rw (← heads_of count hs ms even) (length-map (take count (beside hs ms)) head_of)

  pub free_beside : free_place_of id_in (length hs) k (take count hs) ≡ free_place_of (row_key group_in id_of) (length (beside hs ms)) k (take count (beside hs ms))
  unfolding place_of pairs
  free_beside = rw (same_holds, same_position, same_length, length_beside hs ms even) refl

  pub held_beside : held_place_of id_in k (take count hs) ≡ held_place_of (row_key group_in id_of) k (take count (beside hs ms))
  unfolding place_of pairs
  held_beside = rw (same_holds, same_position) refl

-- a group stored in both arrays at one place
pub stored_group : (count i : ℕ) (hs ms : List (List ℕ)) (h m : List ℕ)
    → groups_in (group_places count (set hs i h) (set ms i m)) ≡ live group_in (places count (set (beside hs ms) i (h, m)))
unfolding groups_in
stored_group count i hs ms h m = ap (λ l. live group_in (places count l)) (set_beside hs ms i h m)

take_beside : (n : ℕ) (hs ms : List (List ℕ)) → take n (beside hs ms) ≡ beside (take n hs) (take n ms)
take_beside zero hs ms = refl
take_beside (suc n) [] ms = refl
take_beside (suc n) (x ∷ hs) [] = refl
take_beside (suc n) (x ∷ hs) (y ∷ ms) = ap {B = List GroupRows} (λ r. (x, y) ∷ r) (take_beside n hs ms)

insert_beside : (i : ℕ) (hs ms : List (List ℕ)) (h m : List ℕ) → length hs ≡ length ms
    → beside (insert_at i h hs) (insert_at i m ms) ≡ insert_at i (h, m) (beside hs ms)
insert_beside zero hs ms h m e = refl
insert_beside (suc i) [] [] h m e = refl
insert_beside (suc i) [] (y ∷ ms) h m e = absurd (omega arith)
insert_beside (suc i) (x ∷ hs) [] h m e = absurd (omega arith)
insert_beside (suc i) (x ∷ hs) (y ∷ ms) h m e = ap {B = List GroupRows} (λ r. (x, y) ∷ r) (insert_beside i hs ms h m (omega arith))

without_beside : (i : ℕ) (hs ms : List (List ℕ)) → length hs ≡ length ms → beside (without i hs) (without i ms) ≡ without i (beside hs ms)
without_beside i [] [] e = refl
without_beside i [] (y ∷ ms) e = absurd (omega arith)
without_beside i (x ∷ hs) [] e = absurd (omega arith)
without_beside zero (x ∷ hs) (y ∷ ms) e = refl
without_beside (suc i) (x ∷ hs) (y ∷ ms) e = ap {B = List GroupRows} (λ r. (x, y) ∷ r) (without_beside i hs ms (omega arith))

-- one place opened, or closed, in both
module _ (at n k : ℕ) (hs ms hs' ms' : List (List ℕ)) (even : length hs ≡ length ms) where
  firsts : length (take n hs) ≡ length (take n ms)
  firsts = omega (arith, length-take n hs, length-take n ms)

  pub opened_beside : (h m : List ℕ) → take k hs' ≡ insert_at at h (take n hs) → take k ms' ≡ insert_at at m (take n ms)
      → take k (beside hs' ms') ≡ insert_at at (h, m) (take n (beside hs ms))
  opened_beside h m f g =
      take_beside k hs' ms'
      ∙ rw (f, g) (insert_beside at (take n hs) (take n ms) h m firsts)
      ∙ ap (insert_at at (h, m)) (sym (take_beside n hs ms))

  pub closed_beside : take k hs' ≡ without at (take n hs) → take k ms' ≡ without at (take n ms)
      → take k (beside hs' ms') ≡ without at (take n (beside hs ms))
  closed_beside f g =
      take_beside k hs' ms'
      ∙ rw (f, g) (without_beside at (take n hs) (take n ms) firsts)
      ∙ ap (without at) (sym (take_beside n hs ms))
