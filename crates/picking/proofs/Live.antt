-- The live flows and groups: a search among their rows was one among the entries, and an entry is read from the rows at its place.
-- Assumes nothing.
use Prim.Native.Nat.{ℕ, ◌<◌, ◌≤◌}
use mathlib.Core.Bool.{Bool, false}
use mathlib.Core.Path.{◌≡◌, refl, ap, sym, ◌∙◌}
use mathlib.Core.List.{List, []}
use native.Mathlib.Omega.{arith}
use lib.ListN.{length, take, get_or, length-map, length-take, get_or-map}
use Rattle.rules.specs.Keyed.{position, holds}
use Rattle.rules.specs.Places.{places, live}
use Rattle.rules.specs.Rows.{cookie_in, entry_in, id_in, group_in, beside}
use Rattle.rules.specs.Tables.{cookie_of, id_of, live_flows, live_groups}
use Rattle.rules.proofs.Arrays.{live_at}
use Rattle.rules.proofs.Mapped.{map_holds, map_position}
use Rattle.rules.proofs.Rows.{get_d_beside, length_beside, head_of, heads_of}
use Rattle.std.specs.Prelude.{Some, None}
use Rattle.picking.specs.Next.{next_at, next_place, Goes}
use Rattle.picking.proofs.Found.{goes_to, goes_nowhere}
use Rattle.tables.proofs.Search.{Sought}

-- for any row
row_at : {R A : Type 0} (read : R → A) (count at : ℕ) (rows : List R) (d : R) → at < length (live read (places count rows))
    → get_or (live read (places count rows)) at (read d) ≡ read (get_or rows at d)
unfolding live
row_at read count at rows d h =
    get_or-map read (take count rows) at d
    ∙ ap read (live_at count at d rows (omega (arith, length-map (take count rows) read)))

-- a list whose keys are those of another is searched as that one
carried : {R A : Type 0} {row_key : R → ℕ} {key : A → ℕ} {slots k n at : ℕ} {rows : List R} {l : List A} {held : Bool}
    → position key k l ≡ position row_key k rows → holds key k l ≡ holds row_key k rows → length l ≡ length rows
    → Sought row_key slots k n rows at held → Sought key slots k n l at held
carried p h z s =
    record { position_is = s.position_is ∙ sym p; holds_is = h ∙ s.holds_is; live = s.live ∙ sym z; inside = s.inside; within = s.within }

module _ {k n at : ℕ} {held : Bool} (count : ℕ) where
  pub sought_flow : (rows : List (List ℕ)) → Sought cookie_in 256 k n (take count rows) at held → Sought cookie_of 256 k n (live_flows count rows) at held
  unfolding live entry_in
  sought_flow rows s =
      let l = take count rows in
      carried (map_position entry_in cookie_of k l) (map_holds entry_in cookie_of k l) (length-map l entry_in) s

  -- only heads are searched
  pub sought_group : (hs ms : List (List ℕ)) → length hs ≡ 128 → length ms ≡ 128 → Sought id_in 128 k n (take count hs) at held
      → Sought id_of 128 k n (live_groups count hs ms) at held
  unfolding live group_in
  sought_group hs ms a b s =
      let l = take count (beside hs ms) in
      carried
      (map_position group_in id_of k l ∙ sym (map_position head_of id_in k l))
      (map_holds group_in id_of k l ∙ sym (map_holds head_of id_in k l))
      (length-map l group_in ∙ sym (length-map l head_of))
      (rw (heads_of count hs ms (a ∙ sym b)) s)

-- a key that none of the rows has, none of the entries has
pub no_flow : (count k : ℕ) (rows : List (List ℕ)) → holds cookie_in k (take count rows) ≡ false → holds cookie_of k (live_flows count rows) ≡ false
unfolding live entry_in
no_flow count k rows h = map_holds entry_in cookie_of k (take count rows) ∙ h

pub no_group : (count k : ℕ) (hs ms : List (List ℕ)) → length hs ≡ length ms → holds id_in k (take count hs) ≡ false → holds id_of k (live_groups count hs ms) ≡ false
unfolding live group_in
no_group count k hs ms e h =
    map_holds group_in id_of k (take count (beside hs ms))
    ∙ sym (map_holds head_of id_in k (take count (beside hs ms)))
    ∙ rw (heads_of count hs ms e) h

pub flow_at : (count at : ℕ) (rows : List (List ℕ)) → at < length (live_flows count rows)
    → get_or (live_flows count rows) at (entry_in []) ≡ entry_in (get_or rows at [])
flow_at count at rows h = row_at entry_in count at rows [] h

pub group_at : (count at : ℕ) (hs ms : List (List ℕ)) → length hs ≡ 128 → length ms ≡ 128 → at < length (live_groups count hs ms)
    → get_or (live_groups count hs ms) at (group_in ([], [])) ≡ group_in (get_or hs at [], get_or ms at [])
group_at count at hs ms a b h =
    row_at group_in count at (beside hs ms) ([], []) h ∙ ap group_in (get_d_beside hs ms at (a ∙ sym b))

-- ---- Where a run goes on

module _ (started : Bool) (count k : ℕ) where
  module _ (rows : List (List ℕ)) (size : length rows ≡ 256) where
    few_flows : length (live_flows count rows) ≤ 256
    unfolding live
    few_flows = omega (arith, size, length-map (take count rows) entry_in, length-take count rows)

    next_flow : next_place cookie_in started k (take count rows) ≡ next_place cookie_of started k (live_flows count rows)
    unfolding next_place next_at live entry_in
    next_flow =
        rw (map_holds entry_in cookie_of k (take count rows), map_position entry_in cookie_of k (take count rows), length-map (take count rows) entry_in) refl

    pub flow_goes : (at : ℕ) → Some at ≡ next_place cookie_in started k (take count rows)
        → Goes cookie_of started k (live_flows count rows) 256 at (length (live_flows count rows)) × (at < length (live_flows count rows))
    flow_goes at is = goes_to cookie_of started k 256 (live_flows count rows) few_flows at (is ∙ next_flow)

    pub flow_stops : None ≡ next_place cookie_in started k (take count rows)
        → Goes cookie_of started k (live_flows count rows) 256 (next_at cookie_of started k (live_flows count rows)) (length (live_flows count rows)) × (length (live_flows count rows) ≤ next_at cookie_of started k (live_flows count rows))
    flow_stops is = goes_nowhere cookie_of started k 256 (live_flows count rows) few_flows (is ∙ next_flow)

  module _ (hs ms : List (List ℕ)) (size : length hs ≡ 128) (even : length hs ≡ length ms) where
    few_groups : length (live_groups count hs ms) ≤ 128
    unfolding live
    few_groups = omega (arith, size, length-map (take count (beside hs ms)) group_in, length-take count (beside hs ms), length_beside hs ms even)

    next_group : next_place id_in started k (take count hs) ≡ next_place id_of started k (live_groups count hs ms)
    unfolding next_place next_at live group_in
    next_group =
        let l = take count (beside hs ms) in
        rw (← heads_of count hs ms even)
        (rw (map_holds head_of id_in k l, map_position head_of id_in k l, length-map l head_of, map_holds group_in id_of k l, map_position group_in id_of k l, length-map l group_in) refl)

    pub group_goes : (at : ℕ) → Some at ≡ next_place id_in started k (take count hs)
        → Goes id_of started k (live_groups count hs ms) 128 at (length (live_groups count hs ms)) × (at < length (live_groups count hs ms))
    group_goes at is = goes_to id_of started k 128 (live_groups count hs ms) few_groups at (is ∙ next_group)

    pub group_stops : None ≡ next_place id_in started k (take count hs)
        → Goes id_of started k (live_groups count hs ms) 128 (next_at id_of started k (live_groups count hs ms)) (length (live_groups count hs ms)) × (length (live_groups count hs ms) ≤ next_at id_of started k (live_groups count hs ms))
    group_stops is = goes_nowhere id_of started k 128 (live_groups count hs ms) few_groups (is ∙ next_group)
