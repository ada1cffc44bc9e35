-- The outputs of a group are those of the members that it stands for.
-- Assumes nothing.
use Prim.Native.Nat.{ℕ}
use mathlib.Core.Bool.{Bool, true, false}
use mathlib.Core.Option.{Option, none, some}
use mathlib.Core.Path.{◌≡◌, refl}
use mathlib.Core.List.{List, [], ◌∷◌}
use native.Mathlib.Omega.{arith}
use lib.ListN.{length, take, get_or}
use borrow.Author.Tests.{eq-eqb, ne_eqb}
use Rattle.rules.specs.Keyed.{find}
use Rattle.rules.specs.GroupId.{group_type, group_vlan, group_low, has_members, is_routing, member_id}
use Rattle.rules.specs.Rows.{id_in, group_in}
use Rattle.rules.specs.Tables.{id_of, live_groups}
use Rattle.rules.specs.Frame.{bridged, routed_by, output_if, member_outputs, group_outputs, found_outputs}
use Rattle.rules.specs.declared.GroupEntry.{GroupEntry}
use Rattle.rules.proofs.Cases.{by_lt, by_eq}
use Rattle.rules.proofs.GroupId.{member_is}
use Rattle.copies.specs.Copies.{rewrite_in}
use Rattle.outputs.specs.declared.Members.{Members}
use Rattle.outputs.specs.Outputs.{Sought, named, outputs_of, Stands}
use Rattle.outputs.proofs.Search.{found}

-- what is found has the key
find_key : {A : Type 0} (key : A → ℕ) (k : ℕ) (l : List A) (e : A) → find key k l ≡ some e → key e ≡ k
unfolding find
find_key key k [] e f = absurd (let z : ◌≡◌ {A = ℕ} 0 1 = cc in omega arith)
find_key key k (g ∷ gs) e f =
    by_lt (key g) k
    (λ h p. find_key key k gs e (simp p at f))
    (λ h p. by_eq (key g) k
    (λ i q. let s : some g ≡ some e = simp (p, q) at f in let t : g ≡ e = cc in rw (← t) i)
    (λ i q. absurd (let s : none ≡ some e = simp (p, q) at f in let z : ◌≡◌ {A = ℕ} 0 1 = cc in omega arith)))

-- by what the look-up gives
by_found : {G : Type 0} {A : Type 0} (r : Option A) → (r ≡ none → G) → ((e : A) → r ≡ some e → G) → G
by_found none f g = f refl
by_found (some e) f g = g e refl

-- THE LAW: a group of type 0 is its own only member
group_itself : (groups : List GroupEntry) (vlan id : ℕ) → group_type id ≡ 0 → member_outputs groups (group_vlan id) (bridged vlan) (group_low id ∷ []) ≡ named vlan id groups
unfolding found_outputs group_outputs member_outputs output_if
group_itself groups vlan id z =
    let m : id ≡ member_id (group_vlan id) (group_low id) = member_is id z in
    let p = eq-eqb (group_type id) 0 z in
    by_found (find id_of id groups)
    (λ f. simp (← m, f))
    (λ g f. let e = find_key id_of id groups g f in simp (p, ← m, f, e))

-- ---- By the type, as code goes

pub stands_itself : {m : Members} (vlan id : ℕ) → group_type id ≡ 0 → m.vlan ≡ group_vlan id → rewrite_in m.rewrite ≡ bridged vlan
    → take m.count m.lows ≡ group_low id ∷ [] → Stands m (named vlan id)
unfolding outputs_of
stands_itself vlan id z v r l = record { is = λ groups. rw (v, r, l) (group_itself groups vlan id z) }

pub stands_none : {m : Members} → take m.count m.lows ≡ [] → Stands m (λ groups. [])
unfolding outputs_of member_outputs
stands_none l = record { is = λ groups. rw l }

module _ {m : Members} (g : GroupEntry) (vlan : ℕ) (n : group_type g.id ≡ 0 → ⊥) where
  pub stands_routing : is_routing (group_type g.id) ≡ true → m.vlan ≡ g.vlan_id → rewrite_in m.rewrite ≡ routed_by g
      → take m.count m.lows ≡ take g.member_count g.members → Stands m (λ groups. group_outputs groups vlan g)
  unfolding outputs_of group_outputs
  stands_routing q v r l = record { is = λ groups. rw (v, r, l) (simp (ne_eqb (group_type g.id) 0 n, q)) }

  module _ (q : is_routing (group_type g.id) ≡ false) where
    pub stands_many : has_members (group_type g.id) ≡ true → m.vlan ≡ group_vlan g.id → rewrite_in m.rewrite ≡ bridged vlan
        → take m.count m.lows ≡ take g.member_count g.members → Stands m (λ groups. group_outputs groups vlan g)
    unfolding outputs_of group_outputs
    stands_many h v r l = record { is = λ groups. rw (v, r, l) (simp (ne_eqb (group_type g.id) 0 n, q, h)) }

    pub stands_other : has_members (group_type g.id) ≡ false → Stands m (λ groups. []) → Stands m (λ groups. group_outputs groups vlan g)
    unfolding group_outputs
    stands_other h s = record { is = λ groups. simp (ne_eqb (group_type g.id) 0 n, q, h) (s.is groups) }

-- the group that was found has the type of the ID
pub of_type : {g : GroupEntry} {id : ℕ} (head lows : List ℕ) → g ≡ group_in (head, lows) → id_in head ≡ id → (group_type id ≡ 0 → ⊥) → group_type g.id ≡ 0 → ⊥
unfolding group_in
of_type head lows u e n z = n (rw (← e) (rw u at z))

-- the group that a search found, or none
module _ {m : Members} {count id at : ℕ} {heads : List (List ℕ)} {held : Bool} (vlan : ℕ) (s : Sought count heads id at held)
    (members : List (List ℕ)) (e : length heads ≡ length members) where
  pub stands_found : held ≡ true → {g : GroupEntry} → g ≡ group_in (get_or heads at [], get_or members at []) → Stands m (λ groups. group_outputs groups vlan g)
      → outputs_of m (live_groups count heads members) ≡ named vlan id (live_groups count heads members)
  unfolding found_outputs
  stands_found q u t = rw (found s members e, q, ← u) (t.is (live_groups count heads members))

  pub stands_missing : held ≡ false → Stands m (λ groups. []) → outputs_of m (live_groups count heads members) ≡ named vlan id (live_groups count heads members)
  unfolding found_outputs
  stands_missing q t = rw (found s members e, q) (t.is (live_groups count heads members))
