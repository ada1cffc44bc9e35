-- Lists in rising order of a key that find the same at every key are the same, by induction along both; and the tests of sameness are
-- equality, field by field.
-- Assumes nothing.
use Prim.Native.Nat.{ℕ, ◌<◌}
use mathlib.Core.Bool.{Bool, true, false, ◌&&◌}
use mathlib.Core.Option.{Option, none, some, none-ne-some, some-ne-none, some-injective}
use mathlib.Core.Path.{◌≡◌, refl, sym, ap, ap₂, ◌∙◌}
use mathlib.Core.List.{List, [], ◌∷◌}
use native.Mathlib.Omega.{arith}
use lib.Dec.{eqb}
use borrow.Author.Tests.{lt-ltb, le-ltb, eq-eqb, eqb-true}
use Rattle.rules.specs.Keyed.{find, Rising}
use Rattle.rules.specs.Undo.{same_bit, same_list, same_flow, same_group}
use Rattle.rules.specs.declared.FlowEntry.{FlowEntry}
use Rattle.rules.specs.declared.GroupEntry.{GroupEntry}
use Rattle.rules.proofs.Cases.{by_lt, by_order, gt_eqb, not_both, and_left, and_right}
use Rattle.rules.proofs.Keyed.{find_below}

-- ---- Rising lists

module _ {A : Type 0} (key : A → ℕ) where
  -- the first entry is found at its key
  pub find_first : (e : A) (es : List A) → find key (key e) (e ∷ es) ≡ some e
  unfolding find
  find_first e es = simp (le-ltb (key e) (key e) (omega arith), eq-eqb (key e) (key e) refl)

  -- above it, what the others have
  pub find_later : (k : ℕ) (e : A) (es : List A) → key e < k → find key k (e ∷ es) ≡ find key k es
  unfolding find
  find_later k e es h = simp (lt-ltb (key e) k h)

  -- and below it nothing
  pub find_before : (k : ℕ) (e : A) (es : List A) → k < key e → find key k (e ∷ es) ≡ none
  unfolding find
  find_before k e es h = simp (le-ltb (key e) k (omega arith), gt_eqb (key e) k h)

  -- one list finds the entry that the other begins with, so neither begins before the other
  not_before : (a b : A) (l m : List A) → key a < key b → find key (key a) (a ∷ l) ≡ find key (key a) (b ∷ m) → ⊥
  not_before a b l m h f = some-ne-none a (sym (find_first a l) ∙ f ∙ find_before (key a) b m h)

  pub alike : (l m : List A) → Rising key l → Rising key m → ((k : ℕ) → find key k l ≡ find key k m) → l ≡ m
  unfolding find
  alike [] [] s t f = refl
  alike [] (b ∷ m) s t f = absurd (none-ne-some b (f (key b) ∙ find_first b m))
  alike (a ∷ l) [] s t f = absurd (none-ne-some a (sym (f (key a)) ∙ find_first a l))
  alike (a ∷ l) (b ∷ m) s t f =
      by_order (key a) (key b)
      (λ h p q. absurd (not_before a b l m h (f (key a))))
      (λ h p q. ap₂ {C = List A} (λ x xs. x ∷ xs)
      (some-injective a b (sym (find_first a l) ∙ f (key a) ∙ ap {B = Option A} (λ k. find key k (b ∷ m)) h ∙ find_first b m))
      (alike l m s.1 t.1 (λ k. by_lt (key a) k
      (λ i r. sym (find_later k a l i) ∙ f k ∙ find_later k b m (omega arith))
      (λ i r. find_below key k (key a) l i s.0 ∙ sym (find_below key k (key b) m (omega arith) t.0)))))
      (λ h p q. absurd (not_before b a m l h (sym (f (key b)))))

-- ---- Sameness

eqb_self : (n : ℕ) → eqb n n ≡ true
eqb_self n = eq-eqb n n refl

pub same_bit_lem : (a b : Bool) → same_bit a b ≡ true → a ≡ b
unfolding same_bit
same_bit_lem true b e = sym e
same_bit_lem false true e = not_both (sym e)
same_bit_lem false false e = refl

pub bit_same : (a : Bool) → same_bit a a ≡ true
unfolding same_bit
bit_same true = refl
bit_same false = refl

pub same_list_lem : (l m : List ℕ) → same_list l m ≡ true → l ≡ m
unfolding same_list
same_list_lem [] [] e = refl
same_list_lem [] (b ∷ m) e = not_both (sym e)
same_list_lem (a ∷ l) [] e = not_both (sym e)
same_list_lem (a ∷ l) (b ∷ m) e =
    ap₂ {C = List ℕ} (λ x xs. x ∷ xs) (eqb-true a b (and_left (eqb a b) (same_list l m) e)) (same_list_lem l m (and_right (eqb a b) (same_list l m) e))

pub list_same : (l : List ℕ) → same_list l l ≡ true
unfolding same_list
list_same [] = refl
list_same (a ∷ l) = simp (eqb_self, list_same l)

-- The last of a conjunction of tests, and those before it
last_test : {G : Type 0} (r t : Bool) → r && t ≡ true → (r ≡ true → t ≡ true → G) → G
last_test r t e f = f (and_left r t e) (and_right r t e)

last_number : {G : Type 0} (r : Bool) (x y : ℕ) → r && eqb x y ≡ true → (r ≡ true → x ≡ y → G) → G
last_number r x y e f = last_test r (eqb x y) e (λ p q. f p (eqb-true x y q))

last_bit : {G : Type 0} (r x y : Bool) → r && same_bit x y ≡ true → (r ≡ true → x ≡ y → G) → G
last_bit r x y e f = last_test r (same_bit x y) e (λ p q. f p (same_bit_lem x y q))

pub same_flow_lem : (a b : FlowEntry) → same_flow a b ≡ true → a ≡ b
unfolding same_flow
same_flow_lem a b e =
    last_bit _ a.has_group b.has_group e (λ e has_group.
    last_bit _ a.has_mac b.has_mac e (λ e has_mac.
    last_number _ a.address_low b.address_low e (λ e low.
    last_number _ a.address_high b.address_high e (λ e high.
    last_number _ a.prefix b.prefix e (λ e prefix.
    last_number _ a.ethertype b.ethertype e (λ e ethertype.
    last_number _ a.new_vlan_id b.new_vlan_id e (λ e new.
    last_number _ a.vlan_id b.vlan_id e (λ e vlan.
    last_number _ a.goto_tbl b.goto_tbl e (λ e goto.
    last_number _ a.table b.table e (λ e table.
    last_number _ a.group_id b.group_id e (λ e group.
    last_number _ a.in_pport_mask b.in_pport_mask e (λ e mask.
    last_number _ a.in_pport b.in_pport e (λ e port.
    last_number _ a.idletime b.idletime e (λ e idletime.
    last_number _ a.hardtime b.hardtime e (λ e hardtime.
    last_number _ a.priority b.priority e (λ e priority.
    last_number _ a.dst_mac b.dst_mac e (λ e mac.
    let cookie = eqb-true a.cookie b.cookie e in
    λ i. record { cookie = cookie i; dst_mac = mac i; address_high = high i; address_low = low i; priority = priority i; hardtime = hardtime i; idletime = idletime i; in_pport = port i; in_pport_mask = mask i; group_id = group i; table = table i; goto_tbl = goto i; vlan_id = vlan i; new_vlan_id = new i; ethertype = ethertype i; prefix = prefix i; has_mac = has_mac i; has_group = has_group i })))))))))))))))))

pub flow_same : (a : FlowEntry) → same_flow a a ≡ true
unfolding same_flow
flow_same a = simp (eqb_self, bit_same)

pub same_group_lem : (a b : GroupEntry) → same_group a b ≡ true → a ≡ b
unfolding same_group
same_group_lem a b e =
    last_test _ (same_list a.members b.members) e (λ e lists.
    last_number _ a.dst_mac b.dst_mac e (λ e target.
    last_number _ a.src_mac b.src_mac e (λ e source.
    last_number _ a.vlan_id b.vlan_id e (λ e vlan.
    last_number _ a.member_count b.member_count e (λ e count.
    last_bit _ a.pop_vlan b.pop_vlan e (λ e pop.
    let id = eqb-true a.id b.id e in
    let members = same_list_lem a.members b.members lists in
    λ i. record { id = id i; pop_vlan = pop i; member_count = count i; vlan_id = vlan i; src_mac = source i; dst_mac = target i; members = members i }))))))

pub group_same : (a : GroupEntry) → same_group a a ≡ true
unfolding same_group
group_same a = simp (eqb_self, bit_same, list_same)
