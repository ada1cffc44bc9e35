-- An order follows its flows. Each command's change goes by way of an order that lacks one place (`Lacks`): the flow of an add or mod is put in
-- there, that of a mod or del was taken out; in between the other places are renumbered or stay.
-- Assumes nothing.
use Prim.Native.Nat.{ℕ, suc, ◌-◌, ◌<◌, ◌≤◌}
use mathlib.Core.Bool.{true, false}
use mathlib.Core.Logic.{⊎_elim}
use mathlib.Core.Path.{◌≡◌, refl, ap, sym, subst, ◌∙◌}
use mathlib.Core.List.Memᴰ
use mathlib.Core.List.{List, [], ◌∷◌, map, map-map, Memᴰ}
use native.Mathlib.Omega.{arith}
use lib.ListN.{length, set, length-map, length-set}
use Rattle.rules.specs.Limits.{max_flows}
use Rattle.rules.specs.Rows.{entry_in}
use Rattle.rules.specs.Answers.{code}
use Rattle.rules.specs.Keyed.{insert_at, without, position, holds, insert, replace, remove, Rising}
use Rattle.rules.specs.Tables.{Tables, cookie_of, flow_entry, held_status, command_status, command_status_in, command_effect, command_effect_in, with_flows, with_groups}
use Rattle.rules.specs.Frame.{beats}
use Rattle.rules.specs.Engine.{Order, no_order, precedes, flow_at, slot_of, own_slot, raise, lower, firsts_with, with_place, without_place, renumbered, same_rank, order_added, order_deleted, order_changed, order_after}
use Rattle.rules.specs.declared.FlowEntry.{FlowEntry}
use Rattle.rules.specs.declared.Command.{Command}
use Rattle.rules.specs.declared.Command.TheVariants.{FlowAdd, FlowMod, FlowDel, GroupAdd, GroupMod, GroupDel}
use Rattle.rules.proofs.Cases.{by_test, by_lt, by_eq, not_both}
use Rattle.rules.proofs.Keyed.{rising_insert, rising_replace, position_le, holds_lt, insert_at_lem, replace_at, remove_at}
use Rattle.rules.proofs.Tables.{Good, add_ok, cookie_kept}
use Rattle.engines.specs.Kept.{Leads, Deciding, below, firsts_of, listed, Kept}
use Rattle.engines.proofs.Sorted.{length_put, put_mem, mem_put, mem_put_old, mem_without, length_without, map_put, map_without, map_same, deciding_without, deciding_put, ahead, ahead_own, own_at, own_gone, own_rest, no_more, slot_is, own_slot_lem, firsts_put, firsts_out}
use Rattle.engines.proofs.Renumbered.{by_raise, by_lower, put_at, put_raise, without_lower, set_at, set_other, one_place, holds_key}

pub kept_empty : Kept [] no_order
unfolding no_order firsts_of below
kept_empty = record { deciding = tt; live = λ p m. absurd (Memᴰ.not-nil m); each = λ p h. absurd (omega arith); firsts_are = refl }

-- ---- An order of all flows but the one in a place

pub record Lacks (flows : List FlowEntry) (at : ℕ) (o : Order) : Type 0 where
  pub deciding : Deciding (listed flows o)
  pub live : (p : ℕ) → Memᴰ p o.places → p < length flows
  pub other : (p : ℕ) → Memᴰ p o.places → p ≡ at → ⊥
  pub each : (p : ℕ) → p < length flows → (p ≡ at → ⊥) → Memᴰ p o.places
  pub room : length o.places < max_flows
  pub firsts_are : o.firsts ≡ firsts_of (listed flows o)

pub fits : (flows : List FlowEntry) (o : Order) → Kept flows o → length o.places ≤ length flows
fits flows o k = no_more (flow_at flows) (length flows) o.places k.deciding k.live

-- a flow taken out
out : (flows : List FlowEntry) (at : ℕ) (o : Order) → length flows ≤ max_flows → at < length flows → Kept flows o
    → Lacks flows at (without_place flows at o)
unfolding without_place
out flows at o f h k =
    let m = k.each at h in
    let i = ahead (flow_at flows at) (listed flows o) in
    let s : own_slot flows o.places at ≡ i = own_slot_lem flows o.places k.live k.deciding at m in
    let own = ahead_own (flow_at flows at) (listed flows o) k.deciding (Memᴰ.map (flow_at flows) m) in
    let a = own_at (flow_at flows) at (entry_in []) o.places k.deciding m in
    record {
      deciding = rw (s, map_without (flow_at flows) i o.places) (deciding_without i (listed flows o) k.deciding);
      live = λ p n. k.live p (mem_without (own_slot flows o.places at) p o.places n);
      other = λ p n. own_gone (flow_at flows) at o.places k.deciding m p (rw s at n);
      each = λ p l n. rw s (own_rest (flow_at flows) at o.places k.deciding m p (k.each p l) n);
      room = rw s (omega (arith, fits flows o k, length_without i o.places (omega (arith, own, length-map o.places (flow_at flows)))));
      firsts_are = rw (s, k.firsts_are, map_without (flow_at flows) i o.places) (rw a at (firsts_out i (entry_in []) (listed flows o) own));
    }

-- a flow put in, behind those that precede it
put : (flows : List FlowEntry) (at : ℕ) (e : FlowEntry) (o : Order) → Rising cookie_of flows → at < length flows → flow_at flows at ≡ e → Lacks flows at o
    → Kept flows (record { places = insert_at (ahead e (listed flows o)) at o.places; firsts = firsts_with e.table o.firsts })
put flows at e o r h w k =
    let i = ahead e (listed flows o) in
    let m : map (flow_at flows) (insert_at i at o.places) ≡ insert_at i e (listed flows o) =
    map_put (flow_at flows) i at o.places ∙ ap (λ x. insert_at i x (listed flows o)) w in
    record {
      deciding = rw m (deciding_put e (listed flows o) k.deciding
          (λ g n c. let q = Memᴰ.of_map (flow_at flows) o.places n in
          k.other q.0 q.1
          (one_place (entry_in []) cookie_of q.0 at flows r (k.live q.0 q.1) h (ap cookie_of q.2 ∙ c ∙ ap cookie_of (sym w)))));
      live = λ p n. ⊎_elim (λ v. rw v h) (λ v. k.live p v) (put_mem i at p o.places n);
      each = λ p l. by_eq p at
          (λ u q. Memᴰ.cast u (mem_put i at o.places))
          (λ u q. mem_put_old i at p o.places (k.each p l u));
      firsts_are = rw (m, k.firsts_are) (firsts_put i e (listed flows o) (omega (arith, k.room, length-map o.places (flow_at flows))));
    }

-- ---- Add

-- the flows as they were, by their new places
raised : (flows : List FlowEntry) (at : ℕ) (e : FlowEntry) (o : Order) → at ≤ length flows → length flows < max_flows → Kept flows o
    → listed (insert_at at e flows) (renumbered (raise at) o) ≡ listed flows o
raised flows at e o h f k =
    map-map (flow_at (insert_at at e flows)) (raise at) o.places
    ∙ map_same (λ x. flow_at (insert_at at e flows) (raise at x)) (flow_at flows) o.places
    (λ x m. put_raise (entry_in []) at x e flows h (omega (arith, k.live x m)))

raised_lacks : (flows : List FlowEntry) (at : ℕ) (e : FlowEntry) (o : Order) → at ≤ length flows → length flows < max_flows → Kept flows o
    → Lacks (insert_at at e flows) at (renumbered (raise at) o)
raised_lacks flows at e o h f k =
    let r = raised flows at e o h f k in
    let n = length_put at e flows in
    record {
      deciding = rw r k.deciding;
      live = λ p m. let q = Memᴰ.of_map (raise at) o.places m in
          let u = k.live q.0 q.1 in
          by_raise at q.0 (omega arith) (λ a b. omega (arith, n, q.2)) (λ a b. omega (arith, n, q.2));
      other = λ p m c. let q = Memᴰ.of_map (raise at) o.places m in
          let u = k.live q.0 q.1 in
          by_raise at q.0 (omega arith) (λ a b. omega (arith, q.2)) (λ a b. omega (arith, q.2));
      each = λ p l c. by_lt p at
          (λ a b. by_raise at p (omega arith)
          (λ s t. Memᴰ.cast (sym t) (Memᴰ.map (raise at) (k.each p (omega arith))))
          (λ s t. absurd (omega arith)))
          (λ a b. by_raise at (p - 1) (omega (arith, n))
          (λ s t. absurd (omega arith))
          (λ s t. let z : p ≡ raise at (p - 1) = omega arith in Memᴰ.cast z (Memᴰ.map (raise at) (k.each (p - 1) (omega (arith, n))))));
      room = omega (arith, fits flows o k, length-map o.places (raise at));
      firsts_are = rw r k.firsts_are;
    }

kept_added : (flows : List FlowEntry) (e : FlowEntry) (o : Order) → Rising cookie_of flows → holds cookie_of e.cookie flows ≡ false
    → length flows < max_flows → Kept flows o → Kept (insert cookie_of e flows) (order_added flows (position cookie_of e.cookie flows) e o)
unfolding order_added
kept_added flows e o r n f k =
    let at = position cookie_of e.cookie flows in
    let h : at ≤ length flows = position_le cookie_of e.cookie flows in
    let more = insert_at_lem cookie_of e flows in
    let s : slot_of flows o.places e ≡ ahead e (listed (insert_at at e flows) (renumbered (raise at) o)) =
    slot_is flows o.places k.live k.deciding e ∙ ap (ahead e) (sym (raised flows at e o h f k)) in
    rw (more, s)
    (put (insert_at at e flows) at e (renumbered (raise at) o) (rw more at (rising_insert cookie_of e flows n r))
    (omega (arith, length_put at e flows)) (put_at (entry_in []) at e flows h) (raised_lacks flows at e o h f k))

-- ---- Del

-- the flows that are left, by their new places
lowered : (flows : List FlowEntry) (at : ℕ) (o : Order) → at < length flows → Lacks flows at o → Kept (without at flows) (renumbered (lower at) o)
lowered flows at o h k =
    let n = length_without at flows h in
    let r : listed (without at flows) (renumbered (lower at) o) ≡ listed flows o =
    map-map (flow_at (without at flows)) (lower at) o.places
    ∙ map_same (λ x. flow_at (without at flows) (lower at x)) (flow_at flows) o.places
    (λ x m. without_lower (entry_in []) at x flows (k.other x m)) in
    record {
      deciding = rw r k.deciding;
      live = λ p m. let q = Memᴰ.of_map (lower at) o.places m in
          let u = k.live q.0 q.1 in
          by_lower at q.0 (k.other q.0 q.1) (λ a b. omega (arith, n, q.2)) (λ a b. omega (arith, n, q.2));
      each = λ p l. by_lt p at
          (λ a b. by_lower at p (omega arith)
          (λ s t. Memᴰ.cast (sym t) (Memᴰ.map (lower at) (k.each p (omega arith) (omega arith))))
          (λ s t. absurd (omega arith)))
          (λ a b. by_lower at (suc p) (omega arith)
          (λ s t. absurd (omega arith))
          (λ s t. let z : p ≡ lower at (suc p) = omega arith in
          Memᴰ.cast z (Memᴰ.map (lower at) (k.each (suc p) (omega (arith, n)) (omega arith)))));
      firsts_are = rw r k.firsts_are;
    }

kept_deleted : (flows : List FlowEntry) (c : ℕ) (o : Order) → length flows ≤ max_flows → holds cookie_of c flows ≡ true → Kept flows o
    → Kept (remove cookie_of c flows) (order_deleted flows (position cookie_of c flows) o)
unfolding order_deleted
kept_deleted flows c o f n k =
    let at = position cookie_of c flows in
    let h = holds_lt cookie_of c flows n in
    rw (remove_at cookie_of c flows n) (lowered flows at (without_place flows at o) h (out flows at o f h k))

-- ---- Mod

-- two flows of one rank and cookie
abbrev Alike : FlowEntry → FlowEntry → Type 0
Alike a b = (a.cookie ≡ b.cookie) × (a.table ≡ b.table) × (a.prefix ≡ b.prefix) × (a.priority ≡ b.priority)

alike_precedes : (a a' b b' : FlowEntry) → Alike a a' → Alike b b' → precedes a b ≡ precedes a' b'
unfolding precedes beats
alike_precedes a a' b b' u v = simp (u.0, u.1, u.2, u.3, v.0, v.1, v.2, v.3)

module _ (f g : ℕ → FlowEntry) (alike : (p : ℕ) → Alike (f p) (g p)) where
  alike_leads : (p : ℕ) (ps : List ℕ) → Leads (f p) (map f ps) → Leads (g p) (map g ps)
  alike_leads p [] l = tt
  alike_leads p (q ∷ ps) l = (sym (alike_precedes (f p) (g p) (f q) (g q) (alike p) (alike q)) ∙ l.0, alike_leads p ps l.1)

  alike_deciding : (ps : List ℕ) → Deciding (map f ps) → Deciding (map g ps)
  alike_deciding [] d = tt
  alike_deciding (p ∷ ps) d = (alike_leads p ps d.0, alike_deciding ps d.1)

  alike_below : (t : ℕ) (ps : List ℕ) → below t (map f ps) ≡ below t (map g ps)
  unfolding below
  alike_below t [] = refl
  alike_below t (p ∷ ps) = simp ((alike p).1, alike_below t ps)

  alike_firsts : (ps : List ℕ) → firsts_of (map f ps) ≡ firsts_of (map g ps)
  unfolding firsts_of
  alike_firsts ps = simp (alike_below 10 ps, alike_below 20 ps, alike_below 30 ps, alike_below 50 ps)

same_rank_lem : (a b : FlowEntry) → same_rank a b ≡ true → (a.table ≡ b.table) × (a.prefix ≡ b.prefix) × (a.priority ≡ b.priority)
unfolding same_rank
same_rank_lem a b s =
    by_eq a.table b.table
    (λ h p. by_eq a.prefix b.prefix
    (λ i q. by_eq a.priority b.priority (λ j r. (h, i, j)) (λ j r. not_both (sym (simp (p, q, r) at s))))
    (λ i q. not_both (sym (simp (p, q) at s))))
    (λ h p. not_both (sym (simp p at s)))

-- a flow of the same rank in its place
kept_level : (flows : List FlowEntry) (at : ℕ) (e : FlowEntry) (o : Order) → at < length flows → (flow_at flows at).cookie ≡ e.cookie
    → same_rank (flow_at flows at) e ≡ true → Kept flows o → Kept (set flows at e) o
kept_level flows at e o h c s k =
    let sa = set_at (entry_in []) at e flows h in
    let y = same_rank_lem (flow_at flows at) e s in
    let alike : (p : ℕ) → Alike (flow_at flows p) (flow_at (set flows at e) p) =
    λ p. by_eq p at
    (λ v q. rw (v, sa) (c, y.0, y.1, y.2))
    (λ v q. rw (set_other (entry_in []) at p e flows v) (refl, refl, refl, refl)) in
    let n = length-set flows at e in
    record {
      deciding = alike_deciding (flow_at flows) (flow_at (set flows at e)) alike o.places k.deciding;
      live = λ p m. omega (arith, n, k.live p m);
      each = λ p l. k.each p (omega (arith, n));
      firsts_are = k.firsts_are ∙ alike_firsts (flow_at flows) (flow_at (set flows at e)) alike o.places;
    }

-- a flow written into the place that an order lacks
written : (flows : List FlowEntry) (at : ℕ) (e : FlowEntry) (o : Order) → Lacks flows at o → listed (set flows at e) o ≡ listed flows o
written flows at e o k =
    map_same (flow_at (set flows at e)) (flow_at flows) o.places (λ x m. set_other (entry_in []) at x e flows (k.other x m))

written_lacks : (flows : List FlowEntry) (at : ℕ) (e : FlowEntry) (o : Order) → Lacks flows at o → Lacks (set flows at e) at o
written_lacks flows at e o k =
    let r = written flows at e o k in
    let n = length-set flows at e in
    record {
      deciding = rw r k.deciding;
      live = λ p m. omega (arith, n, k.live p m);
      other = k.other;
      each = λ p l c. k.each p (omega (arith, n)) c;
      room = k.room;
      firsts_are = rw r k.firsts_are;
    }

kept_moved : (flows : List FlowEntry) (at : ℕ) (e : FlowEntry) (o : Order) → Rising cookie_of (set flows at e) → at < length flows → Lacks flows at o
    → Kept (set flows at e) (with_place flows at e o)
unfolding with_place
kept_moved flows at e o r h k =
    let s : slot_of flows o.places e ≡ ahead e (listed (set flows at e) o) =
    slot_is flows o.places k.live k.deciding e ∙ ap (ahead e) (sym (written flows at e o k)) in
    rw s
    (put (set flows at e) at e o r (omega (arith, length-set flows at e)) (set_at (entry_in []) at e flows h) (written_lacks flows at e o k))

kept_changed : (flows : List FlowEntry) (e : FlowEntry) (o : Order) → Rising cookie_of flows → length flows ≤ max_flows
    → holds cookie_of e.cookie flows ≡ true → Kept flows o
    → Kept (replace cookie_of e flows) (order_changed flows (position cookie_of e.cookie flows) e o)
unfolding order_changed
kept_changed flows e o r f n k =
    let at = position cookie_of e.cookie flows in
    let h = holds_lt cookie_of e.cookie flows n in
    let new = replace_at cookie_of e flows n in
    by_test (same_rank (flow_at flows at) e)
    (λ p. rw (new, p) (kept_level flows at e o h (holds_key (entry_in []) cookie_of e.cookie flows n) p k))
    (λ p. rw (new, p)
    (kept_moved flows at e (without_place flows at o) (rw new at (rising_replace cookie_of e flows r)) h (out flows at o f h k)))

-- ---- Every command

pub held_ok : (k : ℕ) (l : List FlowEntry) → code (held_status (holds cookie_of) k l) ≡ 0 → holds cookie_of k l ≡ true
unfolding held_status code
held_ok k l h = by_test (holds cookie_of k l) (λ p. p) (λ p. absurd (let z = simp p at h in omega arith))

-- THE LAW: the order after a command that completed OK is one of the flows after it
pub kept_after : (t : Tables) (c : Command) (m : List ℕ) (o : Order) → Good t → Kept t.flows o → code (command_status t c) ≡ 0
    → Kept (command_effect t c m).flows (order_after t.flows c o)
unfolding command_status_in command_effect_in with_flows with_groups order_after
kept_after t (FlowAdd f) m o g k h =
    let a = add_ok cookie_of f.cookie t.flows max_flows h in
    subst (λ c. Kept (insert cookie_of (flow_entry f) t.flows) (order_added t.flows (position cookie_of c t.flows) (flow_entry f) o)) (cookie_kept f)
    (kept_added t.flows (flow_entry f) o g.flows_rise (rw (cookie_kept f) a.0) a.1 k)
kept_after t (FlowMod f) m o g k h =
    let a = held_ok f.cookie t.flows h in
    subst (λ c. Kept (replace cookie_of (flow_entry f) t.flows) (order_changed t.flows (position cookie_of c t.flows) (flow_entry f) o)) (cookie_kept f)
    (kept_changed t.flows (flow_entry f) o g.flows_rise g.flows_fit (rw (cookie_kept f) a) k)
kept_after t (FlowDel c) m o g k h = kept_deleted t.flows c o g.flows_fit (held_ok c t.flows h) k
kept_after t (GroupAdd e) m o g k h = k
kept_after t (GroupMod e) m o g k h = k
kept_after t (GroupDel c) m o g k h = k
