-- A journal read part by part: a reading that is right for what came so far is right after the next part, and at the end for all of it.
-- Assumes nothing.
use Prim.Native.Nat.{ℕ, ◌+◌, ◌-◌, ◌≤◌}
use mathlib.Core.Path.{◌≡◌, refl, sym, ap, ◌∙◌}
use mathlib.Core.List.{List, ◌++◌}
use native.Mathlib.Omega.{arith}
use lib.ListN.{length, take, drop, length-drop}
use lib.Seq.{length-take-le, take_all, take-add, drop-drop}
use Rattle.rules.specs.Tables.{Arrays}
use Rattle.replaying.proofs.Units.{drop_take}
use Rattle.earlier.specs.Earlier.{fresh_undoing, Right, Goes, Reads, Ends}
use Rattle.earlier.specs.declared.reading.Undoing.{Undoing}
use Rattle.earlier.specs.declared.reading.Gone.{Gone}
use Rattle.earlier.specs.declared.reading.Ended.{Ended}
use Rattle.earlier.proofs.Steps.{opened_right, more_right}

-- the part of a slice between two positions
abbrev pub between : ℕ → ℕ → List ℕ → List ℕ
between at end s = take (end - at) (drop at s)

-- a part, and the part behind it
parts : (s : List ℕ) (at end to : ℕ) → at ≤ end → end ≤ to → between at end s ++ between end to s ≡ between at to s
parts s at end to h k =
    let e : at + (end - at) ≡ end = omega arith in
    let f : (end - at) + (to - end) ≡ to - at = omega arith in
    let d : drop (end - at) (drop at s) ≡ drop end s = drop-drop (end - at) at s ∙ rw e in
    rw (← f, ← d) (sym (take-add (end - at) (to - end) (drop at s)))

-- what was fed of a slice up to a position, of which the last is not used yet
pub record FedTo (s : List ℕ) (n at end : ℕ) (u : Undoing) (a b : Arrays) : Type 0 where
  pub before : at ≤ end
  pub within : end ≤ length s
  pub right : Right u a b (take end s) (between at end s)
  pub wanted_is : u.wanted ≡ n

pub fed_none : (s : List ℕ) (n : ℕ) (a b : Arrays) → FedTo s n 0 0 (fresh_undoing n) a b
unfolding fresh_undoing
fed_none s n a b = record { before = omega arith; within = omega arith; right = opened_right n a b (take 0 s); wanted_is = refl }

pub fed_more : {s : List ℕ} {n at end : ℕ} {u : Undoing} {a b : Arrays} (g : Gone) (a' b' : Arrays) (to : ℕ) → FedTo s n at end u a b → end ≤ to → to ≤ length s
    → Goes g u a a' b b' (between at to s) → FedTo s n (at + g.used) to g.undoing a' b'
fed_more {s} {n} {at} {end} g a' b' to h k l w =
    let size : length (between at to s) ≡ to - at = length-take-le (to - at) (drop at s) (rw length-drop (omega (arith, h.before))) in
    let fits : g.used ≤ to - at = omega (arith, w.within, size) in
    let sum : end + (to - end) ≡ to = omega arith in
    let came : take end s ++ between end to s ≡ take to s = sym (rw sum at (take-add end (to - end) s)) in
    let rest = parts s at end to h.before k in
    let used : g.used + (to - (at + g.used)) ≡ to - at = omega (arith, h.before) in
    let left : drop g.used (between at to s) ≡ between (at + g.used) to s =
    rw used at (drop_take g.used (to - (at + g.used)) (drop at s)) ∙ ap (take (to - (at + g.used))) (drop-drop g.used at s) in
    record {
      before = omega (arith, h.before);
      within = l;
      right = rw (← left) (w.right (take to s) (rw (← came, ← rest) (more_right h.right (between end to s))));
      wanted_is = w.wanted_is ∙ h.wanted_is;
    }

pub fed_all : {s : List ℕ} {n at end : ℕ} {u : Undoing} {a b : Arrays} (e : Ended) (a' b' : Arrays) → FedTo s n at end u a b → length s ≤ end
    → Ends e u a a' b b' (between at (length s) s) → Reads e n a' b' s
fed_all {s} {end = end} e a' b' h k w =
    let whole : end ≡ length s = omega (arith, h.within) in
    let r = rw (whole, take_all (length s) s (omega arith)) at h.right in
    rw h.wanted_is at (w.reads s r)
