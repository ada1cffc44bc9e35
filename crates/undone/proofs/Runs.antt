-- The three runs of the fixed list on one table, as a list of entries. Removing, replacing and inserting change what is found at one key
-- alone, so that after a run look-up is known from what it found before and in the run's own list. After the last run it finds what the
-- earlier list finds: then the lists are alike, and so is their length, which is why every entry had room.
-- Assumes nothing.
use Prim.Native.Nat.{ℕ, ◌+◌, ◌≤◌, ◌<◌}
use mathlib.Core.Bool.{Bool, true, false}
use mathlib.Core.Option.{Option, none, some}
use mathlib.Core.Path.{◌≡◌, refl, sym, ap, ◌∙◌}
use mathlib.Core.List.{List, [], ◌∷◌}
use native.Mathlib.Omega.{arith}
use lib.Dec.{eqb}
use lib.ListN.{length}
use Rattle.rules.specs.Choose.{choose}
use Rattle.rules.specs.Keyed.{holds, find, insert, replace, remove, Above, Rising}
use Rattle.rules.specs.Undo.{picks, picked}
use Rattle.rules.proofs.Cases.{by_test, by_order, not_both}
use Rattle.rules.proofs.Keyed.{find_insert, find_replace, find_remove, find_below, is_found, holds_found, rising_insert, rising_replace, rising_remove, length_insert}
use Rattle.undone.proofs.Alike.{find_first, find_later, alike}

-- ---- Changes one after another, and what holds at each of them

module _ {A : Type 0} where
  unfoldable pub after : (A → List A → List A) → List A → List A → List A
  after change [] l = l
  after change (e ∷ es) l = after change es (change e l)

  abbrev pub AtEach : (A → List A → Type 0) → (A → List A → List A) → List A → List A → Type 0
  AtEach P change [] l = Unit
  AtEach P change (e ∷ es) l = P e l × AtEach P change es (change e l)

  -- what is at a key after a run: what the run's own entry puts there, or else what was there
  abbrev changed : (A → Option A) → Option A → Option A → Option A
  changed puts none o = o
  changed puts (some e) o = puts e

-- ---- A run, for any list of entries in rising order of a key

module _ {A : Type 0} (key : A → ℕ) where
  -- the entry's key is held, or is not
  abbrev pub Held : Bool → A → List A → Type 0
  Held held e l = holds key (key e) l ≡ held

  -- a change where its entry's key is held or is not: it keeps the order, and puts something at that key alone
  record Change (change : A → List A → List A) (held : Bool) (puts : A → Option A) : Type 0 where
    keeps : (e : A) (l : List A) → Held held e l → Rising key l → Rising key (change e l)
    finds : (k : ℕ) (e : A) (l : List A) → Held held e l → Rising key l
        → find key k (change e l) ≡ choose (eqb (key e) k) (puts e) (find key k l)

  abbrev pub removed : A → List A → List A
  removed e l = remove key (key e) l

  removes : Change removed true (λ e. none)
  removes =
      record {
        keeps = λ e l h s. rising_remove key (key e) l s;
        finds = λ k e l h s. find_remove key k (key e) l s;
      }

  replaces : Change (replace key) true some
  replaces =
      record {
        keeps = λ e l h s. rising_replace key e l s;
        finds = λ k e l h s. simp h at (find_replace key k e l);
      }

  inserts : Change (insert key) false some
  inserts =
      record {
        keeps = λ e l h s. rising_insert key e l h s;
        finds = λ k e l h s. find_insert key k e l;
      }

  record Ran (change : A → List A → List A) (held : Bool) (puts : A → Option A) (es l : List A) : Type 0 where
    passes : AtEach (Held held) change es l
    rises : Rising key (after change es l)
    finds : (k : ℕ) → find key k (after change es l) ≡ changed puts (find key k es) (find key k l)

  -- a run whose keys are all held, or all not, passes at each step
  runs : (change : A → List A → List A) (held : Bool) (puts : A → Option A) → Change change held puts
      → (es l : List A) → Rising key es → Rising key l
      → ((k : ℕ) → is_found key (find key k es) ≡ true → is_found key (find key k l) ≡ held) → Ran change held puts es l
  unfolding after find
  runs change held puts c [] l s t f = record { passes = tt; rises = t; finds = λ k. refl }
  runs change held puts c (e ∷ es) l s t f =
      let h : Held held e l = holds_found key (key e) l ∙ f (key e) (ap (is_found key) (find_first key e es)) in
      let past : (k : ℕ) → k ≤ key e → find key k es ≡ none = λ k i. find_below key k (key e) es i s.0 in
      let r = runs change held puts c es (change e l) s.1 (c.keeps e l h t)
      (λ k p. by_order (key e) k
      (λ i u v. rw (c.finds k e l h t, v) (f k (rw (find_later key k e es i) p)))
      (λ i u v. not_both (sym (rw (past k (omega arith)) at p)))
      (λ i u v. not_both (sym (rw (past k (omega arith)) at p)))) in
      record {
        passes = (h, r.passes);
        rises = r.rises;
        finds = λ k. r.finds k ∙ by_order (key e) k
            (λ i u v. rw (c.finds k e l h t, u, v))
            (λ i u v. rw (c.finds k e l h t, u, v, past k (omega arith)))
            (λ i u v. rw (c.finds k e l h t, u, v, past k (omega arith)));
      }

-- ---- What is picked

module _ {A : Type 0} (key : A → ℕ) (same : A → A → Bool) (there : Bool) where
  -- at a key, what the list has there, if it is picked by what the other has there
  abbrev kept : Option A → Option A → Option A
  kept o none = none
  kept o (some e) = choose (picks key same there o e) (some e) none

module _ {A : Type 0} (key : A → ℕ) (same : A → A → Bool) (there : Bool) (other : List A) where
  above_picked : (k : ℕ) (l : List A) → Above key k l → Above key k (picked key same there other l)
  unfolding picked
  above_picked k [] a = tt
  above_picked k (e ∷ es) a =
      by_test (picks key same there (find key (key e) other) e)
      (λ p. rw p (a.0, above_picked k es a.1))
      (λ p. rw p (above_picked k es a.1))

  rising_picked : (l : List A) → Rising key l → Rising key (picked key same there other l)
  unfolding picked
  rising_picked [] s = tt
  rising_picked (e ∷ es) s =
      by_test (picks key same there (find key (key e) other) e)
      (λ p. rw p (above_picked (key e) es s.0, rising_picked es s.1))
      (λ p. rw p (rising_picked es s.1))

  find_picked : (k : ℕ) (l : List A) → Rising key l → find key k (picked key same there other l) ≡ kept key same there (find key k other) (find key k l)
  unfolding picked find
  find_picked k [] s = refl
  find_picked k (e ∷ es) s =
      let none_there : k ≤ key e → find key k (picked key same there other es) ≡ none =
      λ i. find_below key k (key e) (picked key same there other es) i (above_picked (key e) es s.0) in
      by_test (picks key same there (find key (key e) other) e)
      (λ p. by_order (key e) k
      (λ i u v. simp (p, u) (find_picked k es s.1))
      (λ i u v. simp (p, u, v) (rw (← i, p)))
      (λ i u v. simp (p, u, v)))
      (λ p. by_order (key e) k
      (λ i u v. simp (p, u) (find_picked k es s.1))
      (λ i u v. simp (p, u, v) (none_there (omega arith) ∙ rw (← i, p)))
      (λ i u v. simp (p, u, v) (none_there (omega arith))))

-- ---- One key, by what the list of now and the earlier one have there

module _ {A : Type 0} (key : A → ℕ) (same : A → A → Bool) where
  -- after the dels, and after the mods
  abbrev deleted_at : Option A → Option A → Option A
  deleted_at n r = changed (λ e. none) (kept key same false r n) n

  abbrev modified_at : Option A → Option A → Option A
  modified_at n r = changed some (kept key same true n r) (deleted_at n r)

  -- a del's key is held, a mod's still is, and an add's is not
  dels_there : (n r : Option A) → is_found key (kept key same false r n) ≡ true → is_found key n ≡ true
  dels_there none r h = h
  dels_there (some e) r h = refl

  mods_there : (n r : Option A) → is_found key (kept key same true n r) ≡ true → is_found key (deleted_at n r) ≡ true
  mods_there n none h = not_both (sym h)
  mods_there none (some g) h = h
  mods_there (some e) (some g) h = refl

  adds_new : (n r : Option A) → is_found key (kept key same false n r) ≡ true → is_found key (modified_at n r) ≡ false
  adds_new n none h = not_both (sym h)
  adds_new none (some g) h = refl
  adds_new (some e) (some g) h = not_both (sym h)

  -- after the adds it is the earlier one's
  all_back : ((a b : A) → same a b ≡ true → a ≡ b) → (n r : Option A) → changed some (kept key same false n r) (modified_at n r) ≡ r
  all_back same_is none none = refl
  all_back same_is none (some g) = refl
  all_back same_is (some e) none = refl
  all_back same_is (some e) (some g) =
      by_test (same e g) (λ p. simp p (ap {B = Option A} some (same_is e g p))) (λ p. simp p)

-- ---- Room

module _ {A : Type 0} (key : A → ℕ) where
  -- what an add asks: a key that is not held, and a place that is free
  abbrev pub Fits : ℕ → A → List A → Type 0
  Fits limit e l = Held key false e l × (length l < limit)

  length_inserted : (es l : List A) → length (after (insert key) es l) ≡ length l + length es
  unfolding after
  length_inserted [] l = omega arith
  length_inserted (e ∷ es) l = omega (arith, length_inserted es (insert key e l), length_insert key e l)

  -- where there is room for all of them, there is for each
  each_fits : (limit : ℕ) (es l : List A) → AtEach (Held key false) (insert key) es l → length l + length es ≤ limit → AtEach (Fits limit) (insert key) es l
  each_fits limit [] l h f = tt
  each_fits limit (e ∷ es) l h f =
      ((h.0, omega arith), each_fits limit es (insert key e l) h.1 (omega (arith, length_insert key e l)))

-- ---- The three runs

module _ {A : Type 0} (key : A → ℕ) (same : A → A → Bool) (now earlier : List A) where
  abbrev pub dels : List A
  dels = picked key same false earlier now

  abbrev pub mods : List A
  mods = picked key same true now earlier

  abbrev pub adds : List A
  adds = picked key same false now earlier

  -- the list after the dels, and after the mods
  abbrev pub deleted : List A
  deleted = after (removed key) dels now

  abbrev pub modified : List A
  modified = after (replace key) mods deleted

  pub record Returned (limit : ℕ) : Type 0 where
    pub dels_held : AtEach (Held key true) (removed key) dels now
    pub mods_held : AtEach (Held key true) (replace key) mods deleted
    pub adds_fit : AtEach (Fits key limit) (insert key) adds modified
    pub returns : after (insert key) adds modified ≡ earlier

module _ {A : Type 0} (key : A → ℕ) (same : A → A → Bool) (now earlier : List A) (s : Rising key now) (t : Rising key earlier) where
  dels_run : Ran key (removed key) true (λ e. none) (dels key same now earlier) now
  dels_run =
      runs key (removed key) true (λ e. none) (removes key) (dels key same now earlier) now (rising_picked key same false earlier now s) s
      (λ k h. dels_there key same (find key k now) (find key k earlier) (rw (← find_picked key same false earlier k now s) h))

  find_deleted : (k : ℕ) → find key k (deleted key same now earlier) ≡ deleted_at key same (find key k now) (find key k earlier)
  find_deleted k = rw (← find_picked key same false earlier k now s) (dels_run.finds k)

  mods_run : Ran key (replace key) true some (mods key same now earlier) (deleted key same now earlier)
  mods_run =
      runs key (replace key) true some (replaces key) (mods key same now earlier) (deleted key same now earlier)
      (rising_picked key same true now earlier t) dels_run.rises
      (λ k h. rw (find_deleted k) (mods_there key same (find key k now) (find key k earlier) (rw (← find_picked key same true now k earlier t) h)))

  find_modified : (k : ℕ) → find key k (modified key same now earlier) ≡ modified_at key same (find key k now) (find key k earlier)
  find_modified k = rw (← find_picked key same true now k earlier t, ← find_deleted k) (mods_run.finds k)

  adds_run : Ran key (insert key) false some (adds key same now earlier) (modified key same now earlier)
  adds_run =
      runs key (insert key) false some (inserts key) (adds key same now earlier) (modified key same now earlier)
      (rising_picked key same false now earlier t) mods_run.rises
      (λ k h. rw (find_modified k) (adds_new key same (find key k now) (find key k earlier) (rw (← find_picked key same false now k earlier t) h)))

  gets_back : ((a b : A) → same a b ≡ true → a ≡ b) → after (insert key) (adds key same now earlier) (modified key same now earlier) ≡ earlier
  gets_back same_is =
      alike key (after (insert key) (adds key same now earlier) (modified key same now earlier)) earlier adds_run.rises t
      (λ k. adds_run.finds k
      ∙ rw (find_picked key same false now k earlier t, find_modified k) (all_back key same same_is (find key k now) (find key k earlier)))

  -- EVERY STEP IS ALLOWED, AND THE LAST LIST IS THE EARLIER ONE
  pub returned : (limit : ℕ) → ((a b : A) → same a b ≡ true → a ≡ b) → length earlier ≤ limit → Returned key same now earlier limit
  returned limit same_is fits =
      let back = gets_back same_is in
      let room : length (modified key same now earlier) + length (adds key same now earlier) ≤ limit =
      omega (arith, length_inserted key (adds key same now earlier) (modified key same now earlier), ap length back) in
      record {
        dels_held = dels_run.passes;
        mods_held = mods_run.passes;
        adds_fit = each_fits key limit (adds key same now earlier) (modified key same now earlier) adds_run.passes room;
        returns = back;
      }
