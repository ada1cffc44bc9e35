-- A linear search over the live entries of an array, and what the change after it does to them. The loop passes lower keys, so
-- the position of a key is that among the rest, further on (`Searching`).
-- Assumes nothing.
use Prim.Native.Nat.{ℕ, suc, ◌+◌, ◌<◌, ◌≤◌, min}
use mathlib.Core.Bool.{Bool, true, false}
use mathlib.Core.Path.{◌≡◌, refl, ap, sym, ◌∙◌}
use mathlib.Core.List.{List, [], ◌∷◌}
use native.Mathlib.Omega.{arith}
use native.Mathlib.Numerals.{add-one}
use lib.Dec.{eqb}
use lib.ListN.{length, take, drop, get_or, set, length-take, drop_of_length-le}
use lib.Seq.{drop-cons, take-set-lt}
use borrow.Author.Tests.{lt-ltb, le-ltb, eq-eqb, ne_eqb}
use Rattle.std.specs.Prelude.{Result, Ok, Err, IfOk, IfErr, ◌≢◌}
use Rattle.rules.specs.Keyed.{insert_at, without, position, holds, insert, replace, remove}
use Rattle.rules.specs.Answers.{code}
use Rattle.rules.specs.Tables.{add_status, held_status}
use Rattle.rules.specs.declared.Status.{Status}
use Rattle.rules.specs.declared.Status.TheVariants.{Enoent, Enomem, Eexist}
use Rattle.rules.specs.declared.Status.TheVariants.{Ok as Fine}
use Rattle.rules.proofs.Cases.{by_test, by_lt, by_le}
use Rattle.rules.proofs.Keyed.{holds_lt, insert_at_lem, replace_at, remove_at}
use Rattle.tables.specs.Commands.{place_of, free_of, free_place_of, held_place_of}
use Rattle.tables.proofs.Slots.{take_live}

-- ---- The loop

-- The search for the key k has passed `at` of the entries of es, all with lower keys
pub record Searching {A : Type 0} (key : A → ℕ) (k : ℕ) (es : List A) (at : ℕ) : Type 0 where
  pub position_is : position key k es ≡ at + position key k (drop at es)
  pub holds_is : holds key k es ≡ holds key k (drop at es)

-- the entries from a position on: that which stands there, and the rest
next : {A : Type 0} (es : List A) (at : ℕ) (x : A) → x ≡ get_or es at x → at < length es → drop at es ≡ x ∷ drop (suc at) es
next {A} es at x is h = drop-cons es at x h ∙ ap {B = List A} (λ y. y ∷ drop (suc at) es) (sym is)

module _ {A : Type 0} (key : A → ℕ) {k : ℕ} {es : List A} where
  pub begin : Searching key k es 0
  begin = record { position_is = omega arith; holds_is = refl }

  module _ {at : ℕ} (s : Searching key k es at) where
    module _ (x : A) (is : x ≡ get_or es at x) (h : at < length es) where
      pub pass : key x < k → Searching key k es (at + 1)
      unfolding position holds
      pass b =
          let p : position key k (drop at es) ≡ suc (position key k (drop (at + 1) es)) =
          rw (add-one, next es at x is h) (simp (lt-ltb _ _ b)) in
          let q : holds key k (drop at es) ≡ holds key k (drop (at + 1) es) =
          rw (add-one, next es at x is h) (simp (lt-ltb _ _ b)) in
          record { position_is = omega arith; holds_is = s.holds_is ∙ q }

      -- it ends at an entry whose key is not lower, or behind the last
      stops : k ≤ key x → (position key k es ≡ at) × (holds key k es ≡ eqb (key x) k)
      unfolding position holds
      stops b =
          let p : position key k (drop at es) ≡ 0 = rw (next es at x is h) (simp (le-ltb _ _ b)) in
          let q : holds key k (drop at es) ≡ eqb (key x) k = rw (next es at x is h) (simp (le-ltb _ _ b)) in
          (omega arith, s.holds_is ∙ q)

      pub stop_at : key x ≡ k → Ok at ≡ place_of key k es
      unfolding place_of
      stop_at e = let f = stops (omega arith) in simp (f.0, f.1, eq-eqb _ _ e)

      pub stop_before : k ≤ key x → (key x ≡ k → ⊥) → Err at ≡ place_of key k es
      unfolding place_of
      stop_before b n = let f = stops b in simp (f.0, f.1, ne_eqb _ _ n)

    pub end : length es ≤ at → at ≤ length es → Err (length es) ≡ place_of key k es
    unfolding place_of position holds
    end l h =
        let none : drop at es ≡ [] = drop_of_length-le es {i = at} (omega arith) in
        let p : position key k (drop at es) ≡ 0 = rw none in
        let q : holds key k es ≡ false = s.holds_is ∙ rw none in
        let r : position key k es ≡ length es = omega arith in
        simp (q, r)

-- ---- What was found

-- The position of the key k among the live entries of es, the first `count` of at most `slots`, how many these are, and whether it
-- stands there
pub record Sought {A : Type 0} (key : A → ℕ) (slots k n : ℕ) (l : List A) (at : ℕ) (held : Bool) : Type 0 where
  pub position_is : at ≡ position key k l
  pub holds_is : holds key k l ≡ held
  pub live : n ≡ length l
  pub inside : n ≤ slots
  pub within : at ≤ n

module _ {A : Type 0} (key : A → ℕ) where
  position_le : (k : ℕ) (l : List A) → position key k l ≤ length l
  unfolding position
  position_le k [] = omega arith
  position_le k (e ∷ es) = by_lt (key e) k (λ h p. simp p (omega (arith, position_le k es))) (λ h p. simp p (omega arith))

  module _ (slots k : ℕ) (l : List A) where
    pub free_is : (at : ℕ) → Ok at ≡ free_place_of key slots k l → (at ≡ position key k l) × (holds key k l ≡ false) × (length l < slots)
    unfolding place_of free_of
    free_is at is =
        by_test (holds key k l)
        (λ h. let e : ◌≡◌ {A = Result ℕ Status} (Ok at) (Err Eexist) = simp h at is in (cc))
        (λ h. by_le slots (length l)
        (λ b p. let e : ◌≡◌ {A = Result ℕ Status} (Ok at) (Err Enomem) = simp (h, p) at is in (cc))
        (λ b p. let e : ◌≡◌ {A = Result ℕ Status} (Ok at) (Ok (position key k l)) = simp (h, p) at is in (cc, h, b)))

    -- an error is the status that the rules give
    pub free_fails : (e : Status) → Err e ≡ free_place_of key slots k l → (e ≡ add_status (holds key) slots k l) × (code e ≡ 0 → ⊥)
    unfolding place_of free_of add_status code
    free_fails e is =
        by_test (holds key k l)
        (λ h. let s : ◌≡◌ {A = Result ℕ Status} (Err e) (Err Eexist) = simp h at is in let f : e ≡ Eexist = cc in (simp h f, λ z. omega (arith, z, ap code f)))
        (λ h. by_le slots (length l)
        (λ b p. let s : ◌≡◌ {A = Result ℕ Status} (Err e) (Err Enomem) = simp (h, p) at is in let f : e ≡ Enomem = cc in (simp (h, p) f, λ z. omega (arith, z, ap code f)))
        (λ b p. let s : ◌≡◌ {A = Result ℕ Status} (Err e) (Ok (position key k l)) = simp (h, p) at is in (cc)))

  module _ (k : ℕ) (l : List A) where
    pub held_is : (at : ℕ) → Ok at ≡ held_place_of key k l → (at ≡ position key k l) × (holds key k l ≡ true)
    unfolding place_of
    held_is at is =
        by_test (holds key k l)
        (λ h. let e : ◌≡◌ {A = Result ℕ Status} (Ok at) (Ok (position key k l)) = simp h at is in (cc, h))
        (λ h. let e : ◌≡◌ {A = Result ℕ Status} (Ok at) (Err Enoent) = simp h at is in (cc))

    pub held_fails : (e : Status) → Err e ≡ held_place_of key k l → (e ≡ held_status (holds key) k l) × (code e ≡ 0 → ⊥)
    unfolding place_of held_status code
    held_fails e is =
        by_test (holds key k l)
        (λ h. let s : ◌≡◌ {A = Result ℕ Status} (Err e) (Ok (position key k l)) = simp h at is in (cc))
        (λ h. let s : ◌≡◌ {A = Result ℕ Status} (Err e) (Err Enoent) = simp h at is in let f : e ≡ Enoent = cc in (simp h f, λ z. omega (arith, z, ap code f)))

-- the error of a search is never the status OK
pub held_refusal : {A : Type 0} (key : A → ℕ) (k : ℕ) (l : List A) (r : Result ℕ Status) → r ≡ held_place_of key k l → IfErr r (λ e. e ≢ Fine)
unfolding code
held_refusal key k l (Ok at) is = tt
held_refusal key k l (Err e) is = λ z. (held_fails key k l e is).1 (ap code z)

-- a key that is held stands at one of the live entries
pub held_lt : {A : Type 0} {key : A → ℕ} {slots k n at : ℕ} {l : List A} {held : Bool} → Sought key slots k n l at held → held ≡ true → at < n
held_lt {key = key} {k = k} {l = l} f h = omega (arith, f.position_is, f.live, holds_lt key k l (f.holds_is ∙ h))

-- what the two searches of a table's commands give, in a table whose places are the list es
module _ {A : Type 0} (key : A → ℕ) (slots k count : ℕ) (es : List A) (size : length es ≡ slots) where
  sought : (at : ℕ) (held : Bool) → at ≡ position key k (take count es) → holds key k (take count es) ≡ held
      → Sought key slots k (min count slots) (take count es) at held
  sought at held p h =
      record {
        position_is = p;
        holds_is = h;
        live = sym (length-take count es ∙ ap (min count) size);
        inside = omega arith;
        within = omega (arith, p, position_le key k (take count es), length-take count es);
      }

  pub free_sought : (at : ℕ) → Ok at ≡ free_place_of key (length es) k (take count es)
      → Sought key slots k (min count slots) (take count es) at false × (min count slots < slots)
  free_sought at is =
      let f = free_is key slots k (take count es) at (rw size at is) in
      (sought at false f.0 f.1, omega (arith, f.2, length-take count es))

  pub held_sought : (at : ℕ) → Ok at ≡ held_place_of key k (take count es)
      → Sought key slots k (min count slots) (take count es) at true
  held_sought at is = let f = held_is key k (take count es) at is in sought at true f.0 f.1

  -- both stay within the table
  pub free_within : (r : Result ℕ Status) → r ≡ free_place_of key (length es) k (take count es)
      → IfOk r (λ at. (at ≤ min count slots) × (min count slots < slots))
  free_within (Ok at) is = let f = free_sought at is in (f.0.within, f.1)
  free_within (Err e) is = tt

  pub held_within : (r : Result ℕ Status) → r ≡ held_place_of key k (take count es) → IfOk r (λ at. at < min count slots)
  held_within (Ok at) is = held_lt (held_sought at is) refl
  held_within (Err e) is = tt

-- ---- What a change of the array does to its live entries

module _ {A : Type 0} (key : A → ℕ) {slots n at : ℕ} {held : Bool} (count : ℕ) where
  -- a place was opened at the position, and the entry stands in it
  pub inserted : (es₀ es : List A) (e : A) → Sought key slots (key e) n (take count es₀) at held
      → take (n + 1) es ≡ insert_at at e (take n es₀) → take (n + 1) es ≡ insert key e (take count es₀)
  inserted es₀ es e f o =
      let l : take n es₀ ≡ take count es₀ = rw f.live (take_live count es₀) in
      o
      ∙ rw (l, insert_at_lem key e (take count es₀)) (ap (λ (j : ℕ). insert_at j e (take count es₀)) f.position_is)

  pub replaced : (es : List A) (e : A) → Sought key slots (key e) n (take count es) at held → held ≡ true
      → take count (set es at e) ≡ replace key e (take count es)
  replaced es e f h =
      let b = held_lt f h in
      take-set-lt count es at e (omega (arith, f.live, length-take count es))
      ∙ rw f.position_is (sym (replace_at key e (take count es) (f.holds_is ∙ h)))

  -- the place at the position was closed
  pub removed : {k : ℕ} (last : ℕ) (es₀ es : List A) → Sought key slots k n (take count es₀) at held → held ≡ true
      → take last es ≡ without at (take n es₀) → take last es ≡ remove key k (take count es₀)
  removed {k} last es₀ es f h o =
      let l : take n es₀ ≡ take count es₀ = rw f.live (take_live count es₀) in
      o
      ∙ rw (l, remove_at key k (take count es₀) (f.holds_is ∙ h)) (ap (λ (p : ℕ). without p (take count es₀)) f.position_is)
