-- The deciding entry is a match that no match beats, whatever the order of storage. For any entry, test and order; then for flows.
-- Assumes nothing.
use Prim.Native.Nat.{ℕ, ◌<◌}
use mathlib.Core.Bool.{Bool, true, false}
use mathlib.Core.Option.{Option, none, some}
use mathlib.Core.Logic.{◌⊎◌, inl, inr, ⊎_elim}
use mathlib.Core.Path.{◌≡◌, refl, ap, sym, ◌∙◌}
use mathlib.Core.List.Memᴰ
use mathlib.Core.List.{List, [], ◌∷◌, Memᴰ}
use native.Mathlib.Omega.{arith}
use borrow.Author.Tests.{lt-ltb, ltb-true, eq-eqb}
use Rattle.rules.specs.Keyed.{Above, Rising}
use Rattle.rules.specs.Frame.{better, best, beats}
use Rattle.rules.specs.Tables.{cookie_of}
use Rattle.rules.specs.declared.FlowEntry.{FlowEntry}
use Rattle.rules.proofs.Cases.{by_test, by_eq, by_order, gt_eqb, not_both}

module _ {A : Type 0} (matches : A → Bool) (beats : A → A → Bool) where
  -- r is a match of l that no match beats, or l has no match
  abbrev pub Top : List A → Option A → Type 0
  Top l none = (f : A) → Memᴰ f l → matches f ≡ false
  Top l (some b) = Memᴰ b l × (matches b ≡ true) × ((f : A) → Memᴰ f l → matches f ≡ true → beats f b ≡ false)

  module _ (irrefl : (a : A) → beats a a ≡ false) (trans : (a b c : A) → beats a b ≡ true → beats b c ≡ true → beats a c ≡ true) where
    -- what does not beat b does not beat e, which beats b
    after : (e b f : A) → beats e b ≡ true → beats f b ≡ false → beats f e ≡ false
    after e b f p q = by_test (beats f e) (λ r. not_both (sym (trans f e b r p) ∙ q)) (λ r. r)

    top_more : (e : A) (l : List A) (r : Option A) → Top l r → Top (e ∷ l) (better matches beats e r)
    top_more e l none t =
        by_test (matches e)
        (λ p. simp p (Memᴰ.head refl, refl, λ f m q. ⊎_elim (λ w. rw w (irrefl e)) (λ w. not_both (sym q ∙ t f w)) (Memᴰ.cases_cons m)))
        (λ p. simp p (λ f m. ⊎_elim (λ w. rw w p) (λ w. t f w) (Memᴰ.cases_cons m)))
    top_more e l (some b) t =
        by_test (matches e)
        (λ p. by_test (beats e b)
        (λ q. simp (p, q) (Memᴰ.head refl, refl, λ f m u. ⊎_elim (λ w. rw w (irrefl e)) (λ w. after e b f q (t.2 f w u)) (Memᴰ.cases_cons m)))
        (λ q. simp (p, q) (Memᴰ.tail t.0, t.1, λ f m u. ⊎_elim (λ w. rw w q) (λ w. t.2 f w u) (Memᴰ.cases_cons m))))
        (λ p. simp p (Memᴰ.tail t.0, t.1, λ f m u. ⊎_elim (λ w. not_both (sym u ∙ rw w p)) (λ w. t.2 f w u) (Memᴰ.cases_cons m)))

    -- THE LAW: the best is a match that no match beats
    pub best_is_top : (l : List A) → Top l (best matches beats l)
    unfolding best
    best_is_top [] = λ f m. absurd (Memᴰ.not-nil m)
    best_is_top (e ∷ es) = top_more e es (best matches beats es) (best_is_top es)

    -- there is only one, where no two entries are level
    one_top : (l l' : List A) (r r' : Option A) → ((f : A) → Memᴰ f l → Memᴰ f l') → ((f : A) → Memᴰ f l' → Memᴰ f l)
        → ((a b : A) → Memᴰ a l → Memᴰ b l → beats a b ≡ false → beats b a ≡ false → a ≡ b) → Top l r → Top l' r' → r ≡ r'
    one_top l l' none none to from one t t' = refl
    one_top l l' none (some b) to from one t t' = not_both (sym t'.1 ∙ t b (from b t'.0))
    one_top l l' (some b) none to from one t t' = not_both (sym t.1 ∙ t' b (to b t.0))
    one_top l l' (some a) (some b) to from one t t' =
        ap {B = Option A} some (one a b t.0 (from b t'.0) (t'.2 a (to a t.0) t.1) (t.2 b (from b t'.0) t'.1))

    -- so the order of storage does not matter
    pub any_order : (l l' : List A) → ((f : A) → Memᴰ f l → Memᴰ f l') → ((f : A) → Memᴰ f l' → Memᴰ f l)
        → ((a b : A) → Memᴰ a l → Memᴰ b l → beats a b ≡ false → beats b a ≡ false → a ≡ b) → best matches beats l ≡ best matches beats l'
    any_order l l' to from one =
        one_top l l' (best matches beats l) (best matches beats l') to from one (best_is_top l) (best_is_top l')

-- ---- Flows: longer prefix, then higher priority, then lower cookie. No address is in it, so it is one order for every width

Outranks : FlowEntry → FlowEntry → Type 0
Outranks a b =
    (b.prefix < a.prefix)
    ⊎ (((a.prefix ≡ b.prefix) × (b.priority < a.priority))
    ⊎ ((a.prefix ≡ b.prefix) × (a.priority ≡ b.priority) × (a.cookie < b.cookie)))

outranks : (a b : FlowEntry) → beats a b ≡ true → Outranks a b
unfolding Outranks beats
outranks a b u =
    by_eq a.prefix b.prefix
    (λ g o. by_eq a.priority b.priority
    (λ h p. inr (inr (g, h, ltb-true a.cookie b.cookie (simp (o, p) at u))))
    (λ h p. inr (inl (g, ltb-true b.priority a.priority (simp (o, p) at u)))))
    (λ g o. inl (ltb-true b.prefix a.prefix (simp o at u)))

beats_by : (a b : FlowEntry) → Outranks a b → beats a b ≡ true
unfolding Outranks beats
beats_by a b (inl h) = simp (gt_eqb a.prefix b.prefix h, lt-ltb b.prefix a.prefix h)
beats_by a b (inr (inl h)) =
    simp (eq-eqb a.prefix b.prefix h.0, gt_eqb a.priority b.priority h.1, lt-ltb b.priority a.priority h.1)
beats_by a b (inr (inr h)) =
    simp (eq-eqb a.prefix b.prefix h.0, eq-eqb a.priority b.priority h.1, lt-ltb a.cookie b.cookie h.2)

-- by which of the three it outranks
by_rank : {G : Type 0} (a b : FlowEntry) → beats a b ≡ true → (b.prefix < a.prefix → G) → (a.prefix ≡ b.prefix → b.priority < a.priority → G)
    → (a.prefix ≡ b.prefix → a.priority ≡ b.priority → a.cookie < b.cookie → G) → G
unfolding Outranks
by_rank a b u x y z = ⊎_elim x (λ r. ⊎_elim (λ h. y h.0 h.1) (λ h. z h.0 h.1 h.2) r) (outranks a b u)

pub beats_irrefl : (a : FlowEntry) → beats a a ≡ false
beats_irrefl a = by_test (beats a a) (λ p. absurd (by_rank a a p (λ h. omega arith) (λ g h. omega arith) (λ g h k. omega arith))) (λ p. p)

pub beats_trans : (a b c : FlowEntry) → beats a b ≡ true → beats b c ≡ true → beats a c ≡ true
unfolding Outranks
beats_trans a b c u v =
    beats_by a c
    (by_rank a b u
    (λ h. by_rank b c v (λ k. inl (omega arith)) (λ j k. inl (omega arith)) (λ j k l. inl (omega arith)))
    (λ g h. by_rank b c v (λ k. inl (omega arith)) (λ j k. inr (inl (omega arith, omega arith))) (λ j k l. inr (inl (omega arith, omega arith))))
    (λ g h i. by_rank b c v (λ k. inl (omega arith)) (λ j k. inr (inl (omega arith, omega arith))) (λ j k l. inr (inr (omega arith, omega arith, omega arith)))))

-- two flows of which neither beats the other have one cookie
pub level : (a b : FlowEntry) → beats a b ≡ false → beats b a ≡ false → a.cookie ≡ b.cookie
unfolding Outranks
level a b u v =
    by_order a.prefix b.prefix
    (λ f p q. not_both (sym (beats_by b a (inl f)) ∙ v))
    (λ f p q. by_order a.priority b.priority
    (λ h r s. not_both (sym (beats_by b a (inr (inl (sym f, h)))) ∙ v))
    (λ h r s. by_order a.cookie b.cookie
    (λ k m n. not_both (sym (beats_by a b (inr (inr (f, h, k)))) ∙ u))
    (λ k m n. k)
    (λ k m n. not_both (sym (beats_by b a (inr (inr (sym f, sym h, k)))) ∙ v)))
    (λ h r s. not_both (sym (beats_by a b (inr (inl (f, h)))) ∙ u)))
    (λ f p q. not_both (sym (beats_by a b (inl f)) ∙ u))

-- of rising keys no two are alike
module _ {A : Type 0} (key : A → ℕ) where
  pub above_mem : (k : ℕ) (a : A) (l : List A) → Above key k l → Memᴰ a l → k < key a
  above_mem k a [] h m = absurd (Memᴰ.not-nil m)
  above_mem k a (e ∷ es) h m = ⊎_elim (λ w. rw w h.0) (λ w. above_mem k a es h.1 w) (Memᴰ.cases_cons m)

  pub rising_one : (a b : A) (l : List A) → Rising key l → Memᴰ a l → Memᴰ b l → key a ≡ key b → a ≡ b
  rising_one a b [] s m n e = absurd (Memᴰ.not-nil m)
  rising_one a b (x ∷ xs) s m n e =
      ⊎_elim
      (λ p. ⊎_elim
      (λ q. p ∙ sym q)
      (λ q. absurd (let h = above_mem (key x) b xs s.0 q in let u : key a ≡ key x = ap key p in omega arith))
      (Memᴰ.cases_cons n))
      (λ p. ⊎_elim
      (λ q. absurd (let h = above_mem (key x) a xs s.0 p in let u : key b ≡ key x = ap key q in omega arith))
      (λ q. rising_one a b xs s.1 p q e)
      (Memᴰ.cases_cons n))
      (Memᴰ.cases_cons m)

-- the deciding flow of a table in any order of storage
pub deciding_any_order : (matches : FlowEntry → Bool) (l l' : List FlowEntry) → Rising cookie_of l
    → ((f : FlowEntry) → Memᴰ f l → Memᴰ f l') → ((f : FlowEntry) → Memᴰ f l' → Memᴰ f l)
    → best matches beats l ≡ best matches beats l'
deciding_any_order matches l l' s to from =
    any_order matches beats beats_irrefl beats_trans l l' to from
    (λ a b m n u v. rising_one cookie_of a b l s m n (level a b u v))
