-- Members collected, a TLV at a time, into the front of 62 numbers.
-- Assumes nothing.
use Prim.Native.Nat.{ℕ, suc, ◌+◌, ◌-◌, ◌≤◌, ◌<◌}
use mathlib.Core.Path.{◌≡◌, refl, ap, sym, ◌∙◌}
use mathlib.Core.Bool.{Bool, true, false, not, ◌&&◌, ◌||◌}
use mathlib.Core.List.{List, [], ◌∷◌, ◌++◌, append_assoc}
use native.Mathlib.Omega.{arith}
use native.Mathlib.Numerals.{add-one}
use lib.ListN.{length, length-append, length-set, get_or, take, drop, set, replicate, drop_of_length-le}
use lib.Seq.{drop-cons, set_at, take-suc-set, length-take-le}
use lib.Dec.{eqb, leb}
use borrow.Author.Tests.{ne_eqb, ltb-true, le-leb}
use Rattle.std.proofs.Common.{Option, Some, None, Ok, Err}
use Rattle.rules.specs.Choose.{choose}
use Rattle.rules.specs.Bytes.{le_at}
use Rattle.rules.specs.Region.{well_formed}
use Rattle.rules.specs.Fields.{rule_of}
use Rattle.rules.specs.GroupId.{group_type, group_vlan}
use Rattle.rules.specs.Members.{Collected, elem, member_right, members_right, collect, members_in, pad}
use Rattle.rules.specs.declared.Tlv.{Tlv}
use Rattle.rules.proofs.Cases.{by_test, by_le, by_eq, and_left}
use Rattle.tlv.specs.declared.reader.Malformed.{Malformed}
use Rattle.tlv.specs.Reading.{Read, left}
use Rattle.tlv.proofs.Indexing.{good, faultless, good_left, faultless_left}
use Rattle.members.specs.Listed.{listed}
use Rattle.members.specs.Taking.{low_at, right_after, taken}

-- a number looked for from a position on
module _ (x : ℕ) (s : List ℕ) (i : ℕ) where
  -- found before it or from it on, is found before the next one or from that on
  pub found_next : (there : Bool) → i < length s → (there || elem x (drop i s)) ≡ ((there || eqb (get_or s i 0) x) || elem x (drop (i + 1) s))
  unfolding elem
  found_next true h = refl
  found_next false h = rw (drop-cons s i 0 h, add-one)

  pub found_end : (there : Bool) → length s ≤ i → there ≡ (there || elem x (drop i s))
  unfolding elem
  found_end true h = refl
  found_end false h = rw (drop_of_length-le s h)

-- no members, where one is not right or the region is not well formed
abbrev nobody : Collected
nobody = record { right = false; lows = [] }

collect_cons : (s : List ℕ) (vlan : ℕ) (before : List ℕ) (x : Tlv) (xs : List Tlv) (b : Bool)
    → right_after s vlan before (length before) x ≡ b
    → collect s vlan before (x ∷ xs) ≡ choose b (collect s vlan (before ++ (low_at s x ∷ [])) xs) nobody
unfolding collect
collect_cons s vlan before x xs b e = ap (λ (t : Bool). choose t (collect s vlan (before ++ (low_at s x ∷ [])) xs) nobody) e

-- a member is one of 62 at most
member_room : (vlan n : ℕ) (x : Tlv) (id : ℕ) (there : Bool) → member_right vlan n x id there ≡ true → n < 62
unfolding member_right
member_room vlan n x id there e =
    ltb-true n 62
    (and_left _ (eqb x.kind (n + 1))
    (and_left _ (eqb x.size (rule_of (n + 1)).member_width)
    (and_left _ (eqb (group_type id) 0) (and_left _ (eqb (group_vlan id) vlan) (and_left _ (not there) e)))))

-- one more at the front of the 62 numbers
pad_set : (l : List ℕ) (n low : ℕ) → n < 62 → length l ≡ n → set (pad l) n low ≡ pad (l ++ (low ∷ []))
unfolding pad
pad_set l n low h e =
    let q : 62 - length l ≡ suc (62 - (length l + 1)) = omega arith in
    let p : length (l ++ (low ∷ [])) ≡ length l + 1 = length-append l (low ∷ []) in
    rw (q, p) (set_at l 0 _ low n e ∙ simp append_assoc)

-- a store after the last member: the members then, and that they stand at the front of the 62
module _ (lows : List ℕ) (n low : ℕ) (room : n < 62) (all : length lows ≡ 62) where
  store_members : take (n + 1) (set lows n low) ≡ take n lows ++ (low ∷ [])
  store_members = rw add-one (take-suc-set lows n low (omega arith))

  store_padded : lows ≡ pad (take n lows) → set lows n low ≡ pad (take (n + 1) (set lows n low))
  store_padded e =
      let k : length (take n lows) ≡ n = length-take-le n lows (omega arith) in
      ap (λ (l : List ℕ). set l n low) e ∙ pad_set (take n lows) n low room k ∙ ap pad (sym store_members)

-- no members are right for no count
pub none_right : (count : ℕ) (b : Bool) → members_right count (record { right = b; lows = [] }) ≡ false
unfolding members_right
none_right count true =
    by_le 1 count
    (λ h p. let z = ne_eqb 0 count (λ e. omega arith) in by_test (leb count 62) (λ q. simp (p, q, z)) (λ q. simp (p, q)))
    (λ h p. simp p)
none_right count false = refl

-- one member is right for a count of one
pub one_right : (count low : ℕ) → eqb count 1 ≡ members_right count (record { right = true; lows = low ∷ [] })
unfolding members_right
one_right count low =
    by_eq count 1
    (λ e p. rw e)
    (λ n p. let z = ne_eqb 1 count (λ e. n (sym e)) in by_test (leb 1 count && leb count 62) (λ q. simp (p, q, z)) (λ q. simp (p, q)))

-- of nobody zeros are handed over, as not right
listed_nobody : (count : ℕ) (c : Collected) → c ≡ nobody → Err (replicate 62 0) ≡ listed count c
unfolding listed pad
listed_nobody count c e = rw (e, none_right count false)

-- Where the reading of a region stands: n members are at the front of the 62 numbers, and what is still to be read decides
pub record Reading (h : ℕ) (s : List ℕ) (vlan : ℕ) (rest : List Read) (lows : List ℕ) (n : ℕ) : Type 0 where
  pub whole : faultless rest ≡ well_formed h s
  pub few : n ≤ 62
  pub places : length lows ≡ 62
  pub padded : lows ≡ pad (take n lows)
  pub decides : members_in h s vlan ≡ choose (well_formed h s) (collect s vlan (take n lows) (good rest)) nobody

pub reading_starts : (h : ℕ) (s : List ℕ) (vlan : ℕ) → Reading h s vlan (left h s 0) (replicate 62 0) 0
unfolding pad members_in
reading_starts h s vlan = record {
  whole = faultless_left h s;
  few = omega arith;
  places = refl;
  padded = refl;
  decides = rw (good_left h s);
}

module _ {h : ℕ} {s : List ℕ} {vlan : ℕ} {lows : List ℕ} {n : ℕ} where
  module _ {x : Tlv} {rest : List Read} (r : Reading h s vlan (Ok x ∷ rest) lows n) where
    -- what a TLV makes of the members before it
    takes : (b : Bool) → right_after s vlan (take n lows) n x ≡ b
        → members_in h s vlan ≡ choose (well_formed h s) (choose b (collect s vlan (take n lows ++ (low_at s x ∷ [])) (good rest)) nobody) nobody
    takes b q =
        let k : length (take n lows) ≡ n = length-take-le n lows (omega (arith, r.few, r.places)) in
        r.decides ∙ rw (collect_cons s vlan (take n lows) x (good rest) b (rw k q))

    -- one that is a member is taken, and there is room for it
    pub reading_takes : (low : ℕ) → Some low ≡ taken s vlan (take n lows) n x → (n < 62) × (Reading h s vlan rest (set lows n low) (n + 1))
    reading_takes low e =
        by_test (right_after s vlan (take n lows) n x)
        (λ b.
        let q : ◌≡◌ {A = Option ℕ} (Some low) (Some (low_at s x)) = e ∙ rw b in
        let l : low ≡ low_at s x = cc in
        let room = member_room vlan n x (le_at 4 s x.start) (elem (low_at s x) (take n lows)) b in (
          room,
          rw l (record {
            whole = r.whole;
            few = omega arith;
            places = rw length-set r.places;
            padded = store_padded lows n (low_at s x) room r.places r.padded;
            decides = rw (store_members lows n (low_at s x) room r.places) (takes true b);
          }),
        ))
        (λ b. let q : ◌≡◌ {A = Option ℕ} (Some low) None = e ∙ rw b in absurd (let z : ◌≡◌ {A = ℕ} 0 1 = cc in omega arith))

    -- one that is none fails the list
    pub reading_fails : (count : ℕ) → None ≡ taken s vlan (take n lows) n x → Err (replicate 62 0) ≡ listed count (members_in h s vlan)
    reading_fails count e =
        by_test (right_after s vlan (take n lows) n x)
        (λ b. let q : ◌≡◌ {A = Option ℕ} None (Some (low_at s x)) = e ∙ rw b in absurd (let z : ◌≡◌ {A = ℕ} 0 1 = cc in omega arith))
        (λ b. listed_nobody count _ (takes false b ∙ by_test (well_formed h s) (λ p. simp p) (λ p. simp p)))

  -- so does a fault
  pub reading_stops : {m : Malformed} {rest : List Read} → Reading h s vlan (Err m ∷ rest) lows n → (count : ℕ) → Err (replicate 62 0) ≡ listed count (members_in h s vlan)
  reading_stops r count = listed_nobody count _ (r.decides ∙ rw (← r.whole))

  -- at the end all are members, and their number is compared
  pub reading_ends : Reading h s vlan [] lows n → (count : ℕ) → choose (leb 1 count && eqb n count) (Ok lows) (Err lows) ≡ listed count (members_in h s vlan)
  unfolding listed members_right collect
  reading_ends r count =
      let k : length (take n lows) ≡ n = length-take-le n lows (omega (arith, r.few, r.places)) in
      rw (r.decides, ← r.whole, k, ← r.padded)
      (by_eq n count
      (λ e p. rw (p, le-leb count 62 (omega (arith, r.few))) (by_test (leb 1 count) (λ q. rw q) (λ q. rw q)))
      (λ d p. rw p (by_test (leb 1 count) (λ q. rw q (by_test (leb count 62) (λ t. rw t) (λ t. rw t))) (λ q. rw q))))
