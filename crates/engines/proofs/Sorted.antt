-- Lists of flows in the order in which they decide: `precedes` is a strict order that is total between flows of different cookies, so the search
-- by halves finds the slot behind those that precede a flow, and a flow that is put in there, or taken out, leaves the rest in order.
-- Assumes nothing.
use Prim.Native.Nat.{ℕ, zero, suc, ◌+◌, ◌/◌, ◌<◌, ◌≤◌}
use mathlib.Core.Bool.{Bool, true, false}
use mathlib.Core.Logic.{◌⊎◌, inl, inr, ⊎_elim}
use mathlib.Core.Path.{◌≡◌, refl, ap, sym, ◌∙◌}
use mathlib.Core.List.{List, [], ◌∷◌, map, Memᴰ}
use native.Mathlib.Omega.{arith}
use native.Mathlib.Numerals.{add-one}
use lib.Dec.{ltb}
use lib.ListN.{length, get_or, length-map, get_or-map}
use borrow.Author.Tests.{lt-ltb, eq-eqb}
use Rattle.rules.specs.Choose.{choose}
use Rattle.rules.specs.Limits.{max_flows}
use Rattle.rules.specs.Keyed.{insert_at, without}
use Rattle.rules.specs.Frame.{beats}
use Rattle.rules.specs.Engine.{precedes, flow_at, is_before, halved, slot_of, own_slot, later, earlier, firsts_with, firsts_without}
use Rattle.rules.specs.declared.FlowEntry.{FlowEntry}
use Rattle.rules.proofs.Cases.{by_test, by_lt, by_eq, by_order, not_both, true_or_false}
use Rattle.rules.proofs.Deciding.{beats_irrefl, beats_trans, level}
use Rattle.engines.specs.Kept.{Leads, Deciding, below, firsts_of}

-- ---- Lists: one put in or taken out at a slot

module _ {A : Type 0} where
  pub mem_at : (l : List A) (i : ℕ) (d : A) → i < length l → Memᴰ (get_or l i d) l
  mem_at [] i d h = absurd (omega arith)
  mem_at (x ∷ l) zero d h = mathlib.Core.List.Memᴰ.head refl
  mem_at (x ∷ l) (suc i) d h = mathlib.Core.List.Memᴰ.tail (mem_at l i d (omega arith))

  -- what stands in a list with one put in
  pub put_mem : (i : ℕ) (a x : A) (l : List A) → Memᴰ x (insert_at i a l) → (x ≡ a) ⊎ Memᴰ x l
  put_mem zero a x l m = mathlib.Core.List.Memᴰ.cases_cons m
  put_mem (suc i) a x [] m = mathlib.Core.List.Memᴰ.cases_cons m
  put_mem (suc i) a x (y ∷ l) m =
      ⊎_elim
      (λ w. inr (mathlib.Core.List.Memᴰ.head w))
      (λ w. ⊎_elim (λ v. inl v) (λ v. inr (mathlib.Core.List.Memᴰ.tail v)) (put_mem i a x l w))
      (mathlib.Core.List.Memᴰ.cases_cons m)

  pub mem_put : (i : ℕ) (a : A) (l : List A) → Memᴰ a (insert_at i a l)
  mem_put zero a l = mathlib.Core.List.Memᴰ.head refl
  mem_put (suc i) a [] = mathlib.Core.List.Memᴰ.head refl
  mem_put (suc i) a (y ∷ l) = mathlib.Core.List.Memᴰ.tail (mem_put i a l)

  pub mem_put_old : (i : ℕ) (a x : A) (l : List A) → Memᴰ x l → Memᴰ x (insert_at i a l)
  mem_put_old zero a x l m = mathlib.Core.List.Memᴰ.tail m
  mem_put_old (suc i) a x [] m = absurd (mathlib.Core.List.Memᴰ.not-nil m)
  mem_put_old (suc i) a x (y ∷ l) m =
      ⊎_elim (λ w. mathlib.Core.List.Memᴰ.head w) (λ w. mathlib.Core.List.Memᴰ.tail (mem_put_old i a x l w)) (mathlib.Core.List.Memᴰ.cases_cons m)

  pub length_put : (i : ℕ) (a : A) (l : List A) → length (insert_at i a l) ≡ suc (length l)
  length_put zero a l = refl
  length_put (suc i) a [] = refl
  length_put (suc i) a (y ∷ l) = ap suc (length_put i a l)

  pub mem_without : (i : ℕ) (x : A) (l : List A) → Memᴰ x (without i l) → Memᴰ x l
  mem_without i x [] m = m
  mem_without zero x (y ∷ l) m = mathlib.Core.List.Memᴰ.tail m
  mem_without (suc i) x (y ∷ l) m =
      ⊎_elim (λ w. mathlib.Core.List.Memᴰ.head w) (λ w. mathlib.Core.List.Memᴰ.tail (mem_without i x l w)) (mathlib.Core.List.Memᴰ.cases_cons m)

  pub length_without : (i : ℕ) (l : List A) → i < length l → suc (length (without i l)) ≡ length l
  length_without i [] h = absurd (omega arith)
  length_without zero (y ∷ l) h = refl
  length_without (suc i) (y ∷ l) h = ap suc (length_without i l (omega arith))

module _ {A B : Type 0} where
  pub map_put : (f : A → B) (i : ℕ) (a : A) (l : List A) → map f (insert_at i a l) ≡ insert_at i (f a) (map f l)
  map_put f zero a l = refl
  map_put f (suc i) a [] = refl
  map_put f (suc i) a (y ∷ l) = ap {B = List B} (λ r. f y ∷ r) (map_put f i a l)

  pub map_without : (f : A → B) (i : ℕ) (l : List A) → map f (without i l) ≡ without i (map f l)
  map_without f i [] = refl
  map_without f zero (y ∷ l) = refl
  map_without f (suc i) (y ∷ l) = ap {B = List B} (λ r. f y ∷ r) (map_without f i l)

  pub map_same : (f g : A → B) (l : List A) → ((x : A) → Memᴰ x l → f x ≡ g x) → map f l ≡ map g l
  map_same f g [] h = refl
  map_same f g (y ∷ l) h =
      let u : f y ≡ g y = h y (mathlib.Core.List.Memᴰ.head refl) in
      let v : map f l ≡ map g l = map_same f g l (λ x m. h x (mathlib.Core.List.Memᴰ.tail m)) in
      cc

-- ---- The order of flows

by_precedes : {G : Type 0} (a b : FlowEntry) → precedes a b ≡ true
    → (a.table < b.table → G) → (a.table ≡ b.table → beats a b ≡ true → G) → G
unfolding precedes
by_precedes a b u x y =
    by_order a.table b.table
    (λ h p q. x h)
    (λ h p q. y h (simp (p, q) at u))
    (λ h p q. not_both (sym (simp (p, q) at u)))

pub precedes_table : (a b : FlowEntry) → a.table < b.table → precedes a b ≡ true
unfolding precedes
precedes_table a b h = by_order a.table b.table (λ i p q. simp (p, q)) (λ i p q. absurd (omega arith)) (λ i p q. absurd (omega arith))

-- in one table it is who decides
pub precedes_rank : (a b : FlowEntry) → a.table ≡ b.table → precedes a b ≡ beats a b
unfolding precedes
precedes_rank a b h = simp (eq-eqb a.table b.table h)

pub precedes_irrefl : (a : FlowEntry) → precedes a a ≡ false
precedes_irrefl a = precedes_rank a a refl ∙ beats_irrefl a

pub precedes_trans : (a b c : FlowEntry) → precedes a b ≡ true → precedes b c ≡ true → precedes a c ≡ true
precedes_trans a b c u v =
    by_precedes a b u
    (λ h. by_precedes b c v (λ k. precedes_table a c (omega arith)) (λ k l. precedes_table a c (omega arith)))
    (λ h i. by_precedes b c v
    (λ k. precedes_table a c (omega arith))
    (λ k l. precedes_rank a c (omega arith) ∙ beats_trans a b c i l))

-- of two flows with different cookies one precedes
pub precedes_total : (a b : FlowEntry) → (a.cookie ≡ b.cookie → ⊥) → precedes a b ≡ false → precedes b a ≡ true
precedes_total a b n u =
    by_order a.table b.table
    (λ h p q. true_or_false (precedes a b) (precedes_table a b h) u)
    (λ h p q. by_test (beats b a)
    (λ r. precedes_rank b a (sym h) ∙ r)
    (λ r. absurd (n (level a b (sym (precedes_rank a b h) ∙ u) r))))
    (λ h p q. precedes_table b a h)

-- of a table and one that is behind it
pub precedes_le : (a b : FlowEntry) → precedes a b ≡ true → a.table ≤ b.table
precedes_le a b u = by_precedes a b u (λ h. omega arith) (λ h k. omega arith)

-- ---- Leads and Deciding, by what stands in the list

pub leads_mem : (e g : FlowEntry) (l : List FlowEntry) → Leads e l → Memᴰ g l → precedes e g ≡ true
leads_mem e g [] h m = absurd (mathlib.Core.List.Memᴰ.not-nil m)
leads_mem e g (x ∷ l) h m = ⊎_elim (λ w. rw w h.0) (λ w. leads_mem e g l h.1 w) (mathlib.Core.List.Memᴰ.cases_cons m)

pub leads_all : (e : FlowEntry) (l : List FlowEntry) → ((g : FlowEntry) → Memᴰ g l → precedes e g ≡ true) → Leads e l
leads_all e [] h = tt
leads_all e (x ∷ l) h = (h x (mathlib.Core.List.Memᴰ.head refl), leads_all e l (λ g m. h g (mathlib.Core.List.Memᴰ.tail m)))

pub deciding_without : (i : ℕ) (l : List FlowEntry) → Deciding l → Deciding (without i l)
deciding_without i [] d = tt
deciding_without zero (x ∷ l) d = d.1
deciding_without (suc i) (x ∷ l) d =
    (leads_all x (without i l) (λ g m. leads_mem x g l d.0 (mem_without i g l m)), deciding_without i l d.1)

-- how many at the front precede a flow
abbrev pub ahead : FlowEntry → List FlowEntry → ℕ
ahead e [] = 0
ahead e (g ∷ gs) = choose (precedes g e) (suc (ahead e gs)) 0

pub ahead_le : (e : FlowEntry) (l : List FlowEntry) → ahead e l ≤ length l
ahead_le e [] = omega arith
ahead_le e (g ∷ gs) = by_test (precedes g e) (λ p. rw p (omega (arith, ahead_le e gs))) (λ p. rw p (omega arith))

ahead_true : (e d : FlowEntry) (l : List FlowEntry) (j : ℕ) → j < ahead e l → precedes (get_or l j d) e ≡ true
ahead_true e d [] j h = absurd (omega arith)
ahead_true e d (g ∷ gs) zero h = by_test (precedes g e) (λ p. p) (λ p. absurd (let z = rw p at h in omega arith))
ahead_true e d (g ∷ gs) (suc j) h =
    by_test (precedes g e)
    (λ p. ahead_true e d gs j (let z = rw p at h in omega arith))
    (λ p. absurd (let z = rw p at h in omega arith))

ahead_false : (e d : FlowEntry) (l : List FlowEntry) (j : ℕ) → Deciding l → ahead e l ≤ j → j < length l → precedes (get_or l j d) e ≡ false
ahead_false e d [] j s h k = absurd (omega arith)
ahead_false e d (g ∷ gs) zero s h k = by_test (precedes g e) (λ p. absurd (let z = rw p at h in omega arith)) (λ p. p)
ahead_false e d (g ∷ gs) (suc j) s h k =
    by_test (precedes g e)
    (λ p. ahead_false e d gs j s.1 (let z = rw p at h in omega arith) (omega arith))
    (λ p. by_test (precedes (get_or gs j d) e)
    (λ q. true_or_false (precedes g e)
    (precedes_trans g (get_or gs j d) e (leads_mem g (get_or gs j d) gs s.0 (mem_at gs j d (omega arith))) q) p)
    (λ q. q))

-- a flow with a cookie of its own that is put in there
pub deciding_put : (e : FlowEntry) (l : List FlowEntry) → Deciding l → ((g : FlowEntry) → Memᴰ g l → g.cookie ≡ e.cookie → ⊥)
    → Deciding (insert_at (ahead e l) e l)
deciding_put e [] d n = (tt, tt)
deciding_put e (g ∷ gs) d n =
    by_test (precedes g e)
    (λ p. rw p (
      leads_all g (insert_at (ahead e gs) e gs)
          (λ x m. ⊎_elim (λ w. rw w p) (λ w. leads_mem g x gs d.0 w) (put_mem (ahead e gs) e x gs m)),
      deciding_put e gs d.1 (λ x m. n x (mathlib.Core.List.Memᴰ.tail m)),
    ))
    (λ p. let u = precedes_total g e (n g (mathlib.Core.List.Memᴰ.head refl)) p in
    rw p ((u, leads_all e gs (λ x m. precedes_trans e g x u (leads_mem g x gs d.0 m))), d))

-- a flow of the list stands behind those that precede it
pub ahead_own : (e : FlowEntry) (l : List FlowEntry) → Deciding l → Memᴰ e l → ahead e l < length l
ahead_own e [] d m = absurd (mathlib.Core.List.Memᴰ.not-nil m)
ahead_own e (g ∷ gs) d m =
    ⊎_elim
    (λ w. rw (← w, precedes_irrefl e) (omega arith))
    (λ w. rw (leads_mem g e gs d.0 w) (omega (arith, ahead_own e gs d.1 w)))
    (mathlib.Core.List.Memᴰ.cases_cons m)

-- Where flows are listed by their places: the place of a flow's own slot is gone without that slot, and no other is
module _ (f : ℕ → FlowEntry) (at : ℕ) where
  pub own_at : (d : FlowEntry) (ps : List ℕ) → Deciding (map f ps) → Memᴰ at ps → get_or (map f ps) (ahead (f at) (map f ps)) d ≡ f at
  own_at d [] s m = absurd (mathlib.Core.List.Memᴰ.not-nil m)
  own_at d (p ∷ ps) s m =
      ⊎_elim
      (λ w. rw (← w, precedes_irrefl (f at)))
      (λ w. let u = leads_mem (f p) (f at) (map f ps) s.0 (mathlib.Core.List.Memᴰ.map f w) in rw u (own_at d ps s.1 w))
      (mathlib.Core.List.Memᴰ.cases_cons m)

  pub own_gone : (ps : List ℕ) → Deciding (map f ps) → Memᴰ at ps → (q : ℕ)
      → Memᴰ q (without (ahead (f at) (map f ps)) ps) → q ≡ at → ⊥
  own_gone [] s m q n e = mathlib.Core.List.Memᴰ.not-nil m
  own_gone (p ∷ ps) s m q n e =
      ⊎_elim
      (λ w. let n' : Memᴰ q ps = rw (← w, precedes_irrefl (f at)) at n in
      true_or_false (precedes (f at) (f at))
      (rw (← w) at (leads_mem (f p) (f at) (map f ps) s.0 (mathlib.Core.List.Memᴰ.map f (mathlib.Core.List.Memᴰ.cast (sym e) n'))))
      (precedes_irrefl (f at)))
      (λ w. let u = leads_mem (f p) (f at) (map f ps) s.0 (mathlib.Core.List.Memᴰ.map f w) in
      let n' : Memᴰ q (p ∷ without (ahead (f at) (map f ps)) ps) = rw u at n in
      ⊎_elim
      (λ v. let z : p ≡ at = sym v ∙ e in true_or_false (precedes (f at) (f at)) (rw z at u) (precedes_irrefl (f at)))
      (λ v. own_gone ps s.1 w q v e)
      (mathlib.Core.List.Memᴰ.cases_cons n'))
      (mathlib.Core.List.Memᴰ.cases_cons m)

  pub own_rest : (ps : List ℕ) → Deciding (map f ps) → Memᴰ at ps → (q : ℕ) → Memᴰ q ps → (q ≡ at → ⊥)
      → Memᴰ q (without (ahead (f at) (map f ps)) ps)
  own_rest [] s m q n e = absurd (mathlib.Core.List.Memᴰ.not-nil m)
  own_rest (p ∷ ps) s m q n e =
      ⊎_elim
      (λ w. rw (← w, precedes_irrefl (f at)) (⊎_elim (λ v. absurd (e (v ∙ sym w))) (λ v. v) (mathlib.Core.List.Memᴰ.cases_cons n)))
      (λ w. let u = leads_mem (f p) (f at) (map f ps) s.0 (mathlib.Core.List.Memᴰ.map f w) in
      rw u (⊎_elim (λ v. mathlib.Core.List.Memᴰ.head v) (λ v. mathlib.Core.List.Memᴰ.tail (own_rest ps s.1 w q v e)) (mathlib.Core.List.Memᴰ.cases_cons n)))
      (mathlib.Core.List.Memᴰ.cases_cons m)

-- a number stands in a list or does not
is_in : (n : ℕ) (l : List ℕ) → Memᴰ n l ⊎ (Memᴰ n l → ⊥)
is_in n [] = inr (λ m. mathlib.Core.List.Memᴰ.not-nil m)
is_in n (x ∷ l) =
    by_eq n x
    (λ h p. inl (mathlib.Core.List.Memᴰ.head h))
    (λ h p. ⊎_elim (λ m. inl (mathlib.Core.List.Memᴰ.tail m)) (λ o. inr (λ m. ⊎_elim h o (mathlib.Core.List.Memᴰ.cases_cons m))) (is_in n l))

-- places in order are all different: no more than there are flows
pub no_more : (f : ℕ → FlowEntry) (n : ℕ) (ps : List ℕ) → Deciding (map f ps) → ((p : ℕ) → Memᴰ p ps → p < n) → length ps ≤ n
no_more f zero [] d h = omega arith
no_more f zero (p ∷ ps) d h = absurd (omega (arith, h p (mathlib.Core.List.Memᴰ.head refl)))
no_more f (suc n) ps d h =
    let i = ahead (f n) (map f ps) in
    ⊎_elim
    (λ m. let own = ahead_own (f n) (map f ps) d (mathlib.Core.List.Memᴰ.map f m) in
    let less = no_more f n (without i ps)
    (rw (map_without f i ps) (deciding_without i (map f ps) d))
    (λ p o. let u = h p (mem_without i p ps o) in let v = own_gone f n ps d m p o in omega arith) in
    omega (arith, less, length_without i ps (omega (arith, own, length-map ps f))))
    (λ o. let less = no_more f n ps d (λ p m. let u = h p m in let v : p ≡ n → ⊥ = λ e. o (mathlib.Core.List.Memᴰ.cast (sym e) m) in omega arith) in omega (arith, less))
    (is_in n ps)

-- ---- The search by halves

-- where a test holds up to a number and not from there on, that number is found
pub halved_is : (test : ℕ → Bool) (i top : ℕ) → ((j : ℕ) → j < i → test j ≡ true) → ((j : ℕ) → i ≤ j → j < top → test j ≡ false)
    → (n low high : ℕ) → low ≤ i → i ≤ high → high ≤ top → high ≤ low + n → halved test n low high ≡ i
unfolding halved
halved_is test i top up off zero low high a b c f = omega arith
halved_is test i top up off (suc n) low high a b c f =
    by_lt low high
    (λ h p. by_lt ((low + high) / 2) i
    (λ k q. simp (p, up ((low + high) / 2) k)
    (halved_is test i top up off n ((low + high) / 2 + 1) high (omega arith) b c (omega arith)))
    (λ k q. simp (p, off ((low + high) / 2) k (omega arith))
    (halved_is test i top up off n low ((low + high) / 2) a k (omega arith) (omega arith))))
    (λ h p. simp p (omega arith))

-- ---- Slots of an order, over places that are live

module _ (flows : List FlowEntry) (places : List ℕ) (live : (p : ℕ) → Memᴰ p places → p < length flows)
    (sorted : Deciding (map (flow_at flows) places)) where
  is_before_lem : (e : FlowEntry) (j : ℕ) → j < length places
      → is_before flows e (get_or places j 0) ≡ precedes (get_or (map (flow_at flows) places) j (flow_at flows 0)) e
  unfolding is_before
  is_before_lem e j h =
      simp (lt-ltb (get_or places j 0) (length flows) (live (get_or places j 0) (mem_at places j 0 h)), get_or-map (flow_at flows) places j 0)

  -- behind those that precede it
  pub slot_is : (e : FlowEntry) → slot_of flows places e ≡ ahead e (map (flow_at flows) places)
  unfolding slot_of
  slot_is e =
      let n = length-map places (flow_at flows) in
      let a = ahead_le e (map (flow_at flows) places) in
      halved_is (λ i. is_before flows e (get_or places i 0)) (ahead e (map (flow_at flows) places)) (length places)
      (λ j h. is_before_lem e j (omega (arith, n, a)) ∙ ahead_true e (flow_at flows 0) (map (flow_at flows) places) j h)
      (λ j h k. is_before_lem e j k ∙ ahead_false e (flow_at flows 0) (map (flow_at flows) places) j sorted h (omega (arith, n)))
      (length places) 0 (length places) (omega arith) (omega (arith, n, a)) (omega arith) (omega arith)

  -- the slot of a flow that is listed is its own
  pub own_slot_lem : (at : ℕ) → Memᴰ at places → own_slot flows places at ≡ ahead (flow_at flows at) (map (flow_at flows) places)
  unfolding own_slot
  own_slot_lem at m =
      let n = length-map places (flow_at flows) in
      let i = ahead_own (flow_at flows at) (map (flow_at flows) places) sorted (mathlib.Core.List.Memᴰ.map (flow_at flows) m) in
      simp (slot_is (flow_at flows at), lt-ltb (ahead (flow_at flows at) (map (flow_at flows) places)) (length places) (omega (arith, n, i)))

-- ---- Where tables begin

pub below_le : (t : ℕ) (l : List FlowEntry) → below t l ≤ length l
unfolding below
below_le t [] = omega arith
below_le t (e ∷ es) = by_lt e.table t (λ h p. simp p (omega (arith, below_le t es))) (λ h p. simp p (omega (arith, below_le t es)))

below_put : (t i : ℕ) (e : FlowEntry) (l : List FlowEntry)
    → below t (insert_at i e l) ≡ choose (ltb e.table t) (suc (below t l)) (below t l)
unfolding below
below_put t zero e l = refl
below_put t (suc i) e [] = refl
below_put t (suc i) e (g ∷ gs) =
    by_test (ltb g.table t)
    (λ p. by_test (ltb e.table t) (λ q. simp (p, below_put t i e gs, q)) (λ q. simp (p, below_put t i e gs, q)))
    (λ p. simp (p, below_put t i e gs))

below_out : (t i : ℕ) (d : FlowEntry) (l : List FlowEntry) → i < length l
    → below t l ≡ choose (ltb (get_or l i d).table t) (suc (below t (without i l))) (below t (without i l))
unfolding below
below_out t i d [] h = absurd (omega arith)
below_out t zero d (g ∷ gs) h = refl
below_out t (suc i) d (g ∷ gs) h =
    by_test (ltb g.table t)
    (λ p. by_test (ltb (get_or gs i d).table t)
    (λ q. simp (p, below_out t i d gs (omega arith), q))
    (λ q. simp (p, below_out t i d gs (omega arith), q)))
    (λ p. simp (p, below_out t i d gs (omega arith)))

later_is : (t i : ℕ) (e : FlowEntry) (l : List FlowEntry) → length l < max_flows → later (ltb e.table t) (below t l) ≡ below t (insert_at i e l)
unfolding later
later_is t i e l h =
    let b = below_le t l in
    let z = lt-ltb (below t l) max_flows (omega arith) in
    by_test (ltb e.table t) (λ p. simp (p, z, below_put t i e l, add-one)) (λ p. simp (p, below_put t i e l))

earlier_is : (t i : ℕ) (d : FlowEntry) (l : List FlowEntry) → i < length l → earlier (ltb (get_or l i d).table t) (below t l) ≡ below t (without i l)
unfolding earlier
earlier_is t i d l h =
    let b = below_out t i d l h in
    by_test (ltb (get_or l i d).table t) (λ p. let z = simp p at b in simp p (omega arith)) (λ p. let z = simp p at b in simp p z)

-- a flow more, or less, in any slot
pub firsts_put : (i : ℕ) (e : FlowEntry) (l : List FlowEntry) → length l < max_flows → firsts_with e.table (firsts_of l) ≡ firsts_of (insert_at i e l)
unfolding firsts_with firsts_of
firsts_put i e l h = simp (later_is 10 i e l h, later_is 20 i e l h, later_is 30 i e l h, later_is 50 i e l h)

pub firsts_out : (i : ℕ) (d : FlowEntry) (l : List FlowEntry) → i < length l
    → firsts_without (get_or l i d).table (firsts_of l) ≡ firsts_of (without i l)
unfolding firsts_without firsts_of
firsts_out i d l h = simp (earlier_is 10 i d l h, earlier_is 20 i d l h, earlier_is 30 i d l h, earlier_is 50 i d l h)
