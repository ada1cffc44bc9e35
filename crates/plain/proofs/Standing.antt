-- The search for a cookie among the live flows: it passes those that have another one, so the place of the cookie is that among the rest,
-- further on (`Seeking`). And what the rules' commands are at that place.
-- Assumes nothing.
use Prim.Native.Nat.{ℕ, suc, ◌+◌, ◌<◌, ◌≤◌, min}
use mathlib.Core.Bool.{Bool, true, false}
use mathlib.Core.Path.{◌≡◌, refl, ap, sym, ◌∙◌}
use mathlib.Core.List.{List, [], ◌∷◌, map}
use native.Mathlib.Omega.{arith}
use native.Mathlib.Numerals.{add-one}
use lib.ListN.{length, take, drop, get_or, set, length-map, length-take, drop_of_length-le, get_or-map}
use lib.Seq.{drop-cons}
use borrow.Author.Tests.{eq-eqb, ne_eqb}
use Rattle.rules.specs.Keyed.{without}
use Rattle.rules.specs.Rows.{entry_in}
use Rattle.rules.specs.Places.{live}
use Rattle.rules.specs.Tables.{live_flows}
use Rattle.rules.specs.Engine.{stands_in, put_over, taken_out}
use Rattle.rules.specs.declared.FlowEntry.{FlowEntry}
use Rattle.rules.proofs.Cases.{by_eq, not_both}
use Rattle.rules.proofs.Arrays.{live_at}
use Rattle.plain.specs.Store.{place_of, Stands}

-- ---- The rules by place

pub stands_lt : (k : ℕ) (l : List FlowEntry) → stands_in k l ≡ true → place_of k l < length l
unfolding stands_in place_of
stands_lt k [] t = not_both (sym t)
stands_lt k (g ∷ gs) t = by_eq g.cookie k (λ h p. simp p (omega arith)) (λ h p. simp p (omega (arith, stands_lt k gs (simp p at t))))

pub put_at : (e : FlowEntry) (l : List FlowEntry) → put_over e l ≡ set l (place_of e.cookie l) e
unfolding put_over place_of
put_at e [] = refl
put_at e (g ∷ gs) =
    by_eq g.cookie e.cookie (λ h p. simp p) (λ h p. simp p (ap {B = List FlowEntry} (λ r. g ∷ r) (put_at e gs)))

pub taken_at : (k : ℕ) (l : List FlowEntry) → taken_out k l ≡ without (place_of k l) l
unfolding taken_out place_of
taken_at k [] = refl
taken_at k (g ∷ gs) =
    by_eq g.cookie k (λ h p. simp p) (λ h p. simp p (ap {B = List FlowEntry} (λ r. g ∷ r) (taken_at k gs)))

-- ---- The search

-- It has passed `at` of the n live flows, and found nothing yet
pub record Seeking (k n count : ℕ) (rows : List (List ℕ)) (at : ℕ) (held : Bool) : Type 0 where
  pub within : at ≤ n
  pub live : n ≡ length (live_flows count rows)
  pub size : length rows ≡ 256
  pub none : held ≡ false
  pub place_is : place_of k (live_flows count rows) ≡ at + place_of k (drop at (live_flows count rows))
  pub stands_is : stands_in k (live_flows count rows) ≡ stands_in k (drop at (live_flows count rows))
  pub inside : n ≤ 256

-- the live flows from a place on: the flow there, and the rest
next : (count at : ℕ) (rows : List (List ℕ)) → at < length (live_flows count rows)
    → drop at (live_flows count rows) ≡ entry_in (get_or rows at []) ∷ drop (suc at) (live_flows count rows)
unfolding live
next count at rows h =
    drop-cons (map entry_in (take count rows)) at (entry_in []) h
    ∙ rw (get_or-map entry_in (take count rows) at [], live_at count at [] rows (omega (arith, length-map (take count rows) entry_in))) refl

module _ {k n count : ℕ} {rows : List (List ℕ)} where
  pub begin : length rows ≡ 256 → n ≡ min count 256 → Seeking k n count rows 0 false
  unfolding live
  begin z m =
      record {
        within = omega arith;
        live = omega (arith, length-map (take count rows) entry_in, length-take count rows);
        size = z;
        none = refl;
        place_is = omega arith;
        stands_is = refl;
        inside = omega arith;
      }

  module _ {at : ℕ} {held : Bool} (s : Seeking k n count rows at held) where
    pub pass : at < n → ((entry_in (get_or rows at [])).cookie ≡ k → ⊥) → Seeking k n count rows (at + 1) held
    unfolding place_of stands_in
    pass h b =
        let p : place_of k (drop at (live_flows count rows)) ≡ suc (place_of k (drop (at + 1) (live_flows count rows))) =
        rw (add-one, next count at rows (omega (arith, s.live))) (simp (ne_eqb _ _ b)) in
        let q : stands_in k (drop at (live_flows count rows)) ≡ stands_in k (drop (at + 1) (live_flows count rows)) =
        rw (add-one, next count at rows (omega (arith, s.live))) (simp (ne_eqb _ _ b)) in
        record {
          within = omega arith;
          live = s.live;
          size = s.size;
          none = s.none;
          place_is = omega (arith, s.place_is);
          stands_is = s.stands_is ∙ q;
          inside = s.inside;
        }

    -- it ends at a flow that has the cookie, or behind the last
    pub stop : at < n → (entry_in (get_or rows at [])).cookie ≡ k → Stands k n count rows at true
    unfolding place_of stands_in
    stop h b =
        let p : place_of k (drop at (live_flows count rows)) ≡ 0 = rw (next count at rows (omega (arith, s.live))) (simp (eq-eqb _ _ b)) in
        let q : stands_in k (drop at (live_flows count rows)) ≡ true = rw (next count at rows (omega (arith, s.live))) (simp (eq-eqb _ _ b)) in
        record { place_is = omega (arith, s.place_is); stands_is = s.stands_is ∙ q; live = s.live; inside = s.inside; within = omega (arith, s.within) }

    pub end : n ≤ at → Stands k n count rows at held
    unfolding place_of stands_in
    end h =
        let none : drop at (live_flows count rows) ≡ [] = drop_of_length-le (live_flows count rows) {i = at} (omega (arith, s.live)) in
        let p : place_of k (drop at (live_flows count rows)) ≡ 0 = rw none refl in
        record { place_is = omega (arith, s.place_is); stands_is = s.stands_is ∙ rw none (sym s.none); live = s.live; inside = s.inside; within = omega (arith, s.within) }
