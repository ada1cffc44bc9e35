-- What carrying a payload out keeps, and the order of statuses.
-- Assumes nothing.
use Prim.Native.Nat.{ℕ, ◌<◌, ◌≤◌}
use mathlib.Core.Bool.{true, false}
use mathlib.Core.Path.{◌≡◌, refl}
use mathlib.Core.List.{List}
use native.Mathlib.Omega.{arith}
use lib.Dec.{eqb}
use lib.ListN.{length}
use borrow.Author.Tests.{eqb-true, ne_eqb, le-leb, lt-leb}
use Rattle.rules.specs.Limits.{max_flows, max_groups}
use Rattle.rules.specs.Answers.{code}
use Rattle.rules.specs.Keyed.{holds, Rising}
use Rattle.rules.specs.Decode.{decode}
use Rattle.rules.specs.Tables.{Tables, stored_flow, flow_entry, group_entry, cookie_of, id_of, empty_tables, add_status, command_status, command_status_in, with_flows, with_groups, command_effect, command_effect_in, decoded_status, decoded_status_in, decoded_effect, decoded_effect_in, executed, carry_out_in, execute, execute_in}
use Rattle.rules.specs.declared.Terms.{Terms}
use Rattle.rules.specs.declared.Status.{Status}
use Rattle.rules.specs.declared.Status.TheVariants.{Ok, Enoent, Enxio, Enomem, Eexist, Einval, Emsgsize, Enotsup}
use Rattle.rules.specs.declared.Match.{Match}
use Rattle.rules.specs.declared.Match.TheVariants.{IngressPort, Vlan, TerminationMac, UnicastRouting, Bridging}
use Rattle.rules.specs.declared.Flow.{Flow}
use Rattle.rules.specs.declared.Command.{Command}
use Rattle.rules.specs.declared.Command.TheVariants.{FlowAdd, FlowMod, FlowDel, GroupAdd, GroupMod, GroupDel}
use Rattle.std.specs.Prelude.{Result, Ok as Carry, Err as Refused}
use Rattle.rules.proofs.Cases.{by_test, by_le}
use Rattle.rules.proofs.Keyed.{rising_insert, rising_replace, rising_remove, length_insert, length_replace, length_remove_le}

-- only OK has code 0
pub ok_code : (e : Status) → code e ≡ 0 → e ≡ Ok
unfolding code
ok_code Ok h = refl
ok_code Enoent h = absurd (omega arith)
ok_code Enxio h = absurd (omega arith)
ok_code Enomem h = absurd (omega arith)
ok_code Eexist h = absurd (omega arith)
ok_code Einval h = absurd (omega arith)
ok_code Emsgsize h = absurd (omega arith)
ok_code Enotsup h = absurd (omega arith)

-- A STATUS OTHER THAN OK LEAVES THE TABLES AS THEY WERE
pub not_ok_unchanged : (terms : Terms) (payload : List ℕ) (t : Tables)
    → ((execute terms payload t).status ≡ Ok → ⊥) → (execute terms payload t).tables ≡ t
unfolding execute_in carry_out_in executed
not_ok_unchanged terms payload t h = simp (ne_eqb _ 0 (λ e. h (ok_code _ e)))

-- ---- The order of statuses, for any table

module _ {A : Type 0} (key : A → ℕ) (k : ℕ) (l : List A) where
  -- EEXIST comes before ENOMEM: a key that is held is EEXIST, however many entries are live
  pub add_held : (limit : ℕ) → holds key k l ≡ true → add_status (holds key) limit k l ≡ Eexist
  unfolding add_status
  add_held limit h = simp h

  -- ENOMEM exactly from the limit on
  pub add_full : (limit : ℕ) → holds key k l ≡ false → limit ≤ length l → add_status (holds key) limit k l ≡ Enomem
  unfolding add_status
  add_full limit h f = simp (h, le-leb _ _ f)

  pub add_done : (limit : ℕ) → holds key k l ≡ false → length l < limit → add_status (holds key) limit k l ≡ Ok
  unfolding add_status
  add_done limit h f = simp (h, lt-leb _ _ f)

  -- what OK says of the key and of the number of entries
  pub add_ok : (limit : ℕ) → code (add_status (holds key) limit k l) ≡ 0 → (holds key k l ≡ false) × (length l < limit)
  unfolding add_status code
  add_ok limit h =
      by_test (holds key k l)
      (λ p. absurd (let z = simp p at h in omega arith))
      (λ p. by_le limit (length l) (λ u q. absurd (let z = simp (p, q) at h in omega arith)) (λ u q. (p, u)))

-- ---- Tables that calls make: rising keys, and no more entries than there are entry slots

pub record Good (t : Tables) : Type 0 where
  pub flows_rise : Rising cookie_of t.flows
  pub groups_rise : Rising id_of t.groups
  pub flows_fit : length t.flows ≤ max_flows
  pub groups_fit : length t.groups ≤ max_groups

pub empty_good : Good empty_tables
unfolding empty_tables
empty_good = record { flows_rise = tt; groups_rise = tt; flows_fit = omega arith; groups_fit = omega arith }

cookie_stored : (f : Flow) (m : Match) → (stored_flow f m).cookie ≡ f.cookie
unfolding stored_flow
cookie_stored f (IngressPort p m) = refl
cookie_stored f (Vlan p v n) = refl
cookie_stored f (TerminationMac p ethertype mac v) = refl
cookie_stored f (UnicastRouting ethertype high low prefix hg id) = refl
cookie_stored f (Bridging v hm m hg id) = refl

-- the key of a stored flow is its cookie
pub cookie_kept : (f : Flow) → (flow_entry f).cookie ≡ f.cookie
unfolding flow_entry
cookie_kept f = cookie_stored f f.matching

command_good : (t : Tables) (c : Command) (m : List ℕ) → Good t → code (command_status t c) ≡ 0 → Good (command_effect t c m)
unfolding command_status_in command_effect_in with_flows with_groups group_entry
command_good t (FlowAdd f) m g h =
    let a = add_ok cookie_of f.cookie t.flows max_flows h in
    record {
      flows_rise = rising_insert cookie_of (flow_entry f) t.flows (rw (cookie_kept f) a.0) g.flows_rise;
      groups_rise = g.groups_rise;
      flows_fit = omega (arith, length_insert cookie_of (flow_entry f) t.flows);
      groups_fit = g.groups_fit;
    }
command_good t (FlowMod f) m g h =
    record {
      flows_rise = rising_replace cookie_of (flow_entry f) t.flows g.flows_rise;
      groups_rise = g.groups_rise;
      flows_fit = omega (arith, length_replace cookie_of (flow_entry f) t.flows);
      groups_fit = g.groups_fit;
    }
command_good t (FlowDel k) m g h =
    record {
      flows_rise = rising_remove cookie_of k t.flows g.flows_rise;
      groups_rise = g.groups_rise;
      flows_fit = omega (arith, length_remove_le cookie_of k t.flows);
      groups_fit = g.groups_fit;
    }
command_good t (GroupAdd e) m g h =
    let a = add_ok id_of e.id t.groups max_groups h in
    record {
      flows_rise = g.flows_rise;
      groups_rise = rising_insert id_of (group_entry e m) t.groups a.0 g.groups_rise;
      flows_fit = g.flows_fit;
      groups_fit = omega (arith, length_insert id_of (group_entry e m) t.groups);
    }
command_good t (GroupMod e) m g h =
    record {
      flows_rise = g.flows_rise;
      groups_rise = rising_replace id_of (group_entry e m) t.groups g.groups_rise;
      flows_fit = g.flows_fit;
      groups_fit = omega (arith, length_replace id_of (group_entry e m) t.groups);
    }
command_good t (GroupDel k) m g h =
    record {
      flows_rise = g.flows_rise;
      groups_rise = rising_remove id_of k t.groups g.groups_rise;
      flows_fit = g.flows_fit;
      groups_fit = omega (arith, length_remove_le id_of k t.groups);
    }

decoded_good : (t : Tables) (w : Result Command Status) (m : List ℕ) → Good t → code (decoded_status t w) ≡ 0 → Good (decoded_effect t w m)
unfolding decoded_status_in decoded_effect_in
decoded_good t (Carry c) m g h = command_good t c m g h
decoded_good t (Refused e) m g h = g

-- every payload keeps them
pub execute_good : (terms : Terms) (payload : List ℕ) (t : Tables) → Good t → Good (execute terms payload t).tables
unfolding execute_in carry_out_in executed
execute_good terms payload t g =
    let d = decode terms payload in
    by_test (eqb (code (decoded_status t d.what)) 0)
    (λ p. rw p (decoded_good t d.what d.members g (eqb-true (code (decoded_status t d.what)) 0 p)))
    (λ p. rw p g)
