-- From what a command comes to, and what becomes of the order, to what carrying a payload out promises.
-- Assumes nothing.
use Prim.Native.Nat.{ℕ}
use mathlib.Core.Path.{◌≡◌, refl, ap, sym, ◌∙◌, subst}
use mathlib.Core.List.{List}
use lib.Dec.{eqb}
use Rattle.rules.specs.Answers.{code}
use Rattle.rules.specs.Limits.{max_flows}
use Rattle.rules.specs.Places.{places, live}
use Rattle.rules.specs.Rows.{entry_in}
use Rattle.rules.specs.Tables.{Arrays, arrays, tables_of, cookie_of, flow_entry, stored_flow, command_status, command_status_in, carry_out_in, decoded_status_in, decoded_effect_in, executed}
use Rattle.rules.specs.Engine.{Order, order_after}
use Rattle.rules.specs.Switch.{Storage, order_in, order_by, followed}
use Rattle.rules.specs.declared.Counts.{Counts}
use Rattle.rules.specs.declared.Firsts.{Firsts}
use Rattle.rules.specs.declared.Flow.{Flow}
use Rattle.rules.specs.declared.FlowEntry.{FlowEntry}
use Rattle.rules.specs.declared.Group.{Group}
use Rattle.rules.specs.declared.Status.{Status}
use Rattle.rules.specs.declared.Status.TheVariants.{Ok}
use Rattle.rules.specs.declared.Command.{Command}
use Rattle.rules.specs.declared.Command.TheVariants.{FlowAdd, FlowMod, FlowDel, GroupAdd, GroupMod, GroupDel}
use Rattle.std.specs.Prelude.{Result, Ok as Carry, Err as Refused}
use Rattle.rules.specs.declared.Decoding.{Decoding}
use Rattle.rules.proofs.Cases.{by_test}
use Rattle.rules.proofs.Tables.{cookie_kept}
use Rattle.tables.specs.Commands.{Added, Modded, Deleted}
use Rattle.execute.specs.Outcome.{OnGroups}
use Rattle.std.specs.Result.{result_unwrap_or}
use Rattle.tables.specs.Commands.{status_of}
use Rattle.execute.proofs.Carried.{Commanded, flow_added, flow_replaced, flow_removed, refused}
use Rattle.carrying.specs.Outcome.{Follows, AddFollowed, ModFollowed, DelFollowed, Carried}

abbrev with_order : Arrays → List ℕ → Storage
with_order a order = record { arrays = a; order = order }

abbrev decoding : Result Command Status → List ℕ → Decoding
decoding what m = record { what = what; members = m }

-- ---- A command of the flow table

module _ (counts : Counts) (firsts : Firsts) (a : Arrays) (m : List ℕ) (status : Status) (then : ℕ × Firsts) (rows : List (List ℕ)) (order order' : List ℕ) where
  abbrev of_flows : Counts
  of_flows = record { flows = then.0; groups = counts.groups }

  -- what a command on the flow table promises as a payload
  abbrev pub FlowsCarried : Command → Type 0
  FlowsCarried c =
      Carried status (of_flows, then.1) counts firsts (with_order a order) (with_order (arrays rows a.heads a.members) order') (decoding (Carry c) m)

  both : (c : Command) → Commanded status of_flows counts a (arrays rows a.heads a.members) c m
      → Follows then firsts order order' (command_status (tables_of counts a) c) (order_in counts.flows firsts order) (order_after (tables_of counts a).flows c (order_in counts.flows firsts order))
      → FlowsCarried c
  unfolding carry_out_in decoded_status_in decoded_effect_in executed order_by followed
  both c x f =
      record {
        status_is = x.status_is;
        tables_are = x.tables_are;
        order_is = f.order_is;
        kept = λ z.
            let no : command_status (tables_of counts a) c ≡ Ok → ⊥ = λ e. z (x.status_is ∙ e) in
            let t = x.kept no in
            let o = f.kept no in
            (t.0, o.0, ap (λ (b : Arrays). with_order b order') t.1 ∙ ap (with_order a) o.1);
      }

  module _ (f : Flow) (e : FlowEntry) (is : e ≡ flow_entry f) where
    pub flow_add : Added (live entry_in) cookie_of max_flows (places counts.flows a.flows) e status (places then.0 rows)
        → AddFollowed then firsts counts.flows a.flows order order' e → FlowsCarried (FlowAdd f)
    unfolding command_status_in tables_of order_after flow_entry stored_flow
    flow_add h o = both (FlowAdd f) (flow_added counts a m status then.0 rows f e is h) (rw (is, cookie_kept f) at o)

    pub flow_mod : Modded (live entry_in) cookie_of max_flows (places counts.flows a.flows) e status (places then.0 rows)
        → ModFollowed then firsts counts.flows a.flows order order' e → FlowsCarried (FlowMod f)
    unfolding command_status_in tables_of order_after flow_entry stored_flow
    flow_mod h o = both (FlowMod f) (flow_replaced counts a m status then.0 rows f e is h) (rw (is, cookie_kept f) at o)

  pub flow_del : (cookie : ℕ) → Deleted (live entry_in) cookie_of max_flows (places counts.flows a.flows) cookie status (places then.0 rows)
      → DelFollowed then firsts counts.flows a.flows order order' cookie → FlowsCarried (FlowDel cookie)
  unfolding command_status_in tables_of order_after
  flow_del cookie h o = both (FlowDel cookie) (flow_removed counts a m status then.0 rows cookie h) o

-- ---- A command of the group table

module _ (counts : Counts) (firsts : Firsts) (flows heads members heads' members' : List (List ℕ)) (order m : List ℕ) (x : Result Counts Status) where
  abbrev pub GroupsCarried : Command → Type 0
  GroupsCarried c =
      Carried (status_of x) (result_unwrap_or x counts, firsts) counts firsts (with_order (arrays flows heads members) order) (with_order (arrays flows heads' members') order) (decoding (Carry c) m)

  alone : (c : Command) → ((l : List FlowEntry) (o : Order) → order_after l c o ≡ o) → OnGroups x counts heads members heads' members' c m → GroupsCarried c
  unfolding carry_out_in decoded_status_in decoded_effect_in executed order_by followed
  alone c stays g =
      let t = g.commands flows in
      let rule = command_status (tables_of counts (arrays flows heads members)) c in
      record {
        status_is = t.status_is;
        tables_are = t.tables_are;
        order_is = rw g.flows_kept (by_test (eqb (code rule) 0) (λ p. rw (p, stays)) (λ p. rw p));
        kept = λ z.
            let k = t.kept (λ e. z (t.status_is ∙ e)) in
            (k.0, refl, ap (λ (b : Arrays). with_order b order) k.1);
      }

  pub group_add : (g : Group) → OnGroups x counts heads members heads' members' (GroupAdd g) m → GroupsCarried (GroupAdd g)
  unfolding order_after
  group_add g h = alone (GroupAdd g) (λ l o. refl) h

  pub group_mod : (g : Group) → OnGroups x counts heads members heads' members' (GroupMod g) m → GroupsCarried (GroupMod g)
  unfolding order_after
  group_mod g h = alone (GroupMod g) (λ l o. refl) h

  pub group_del : (id : ℕ) → OnGroups x counts heads members heads' members' (GroupDel id) m → GroupsCarried (GroupDel id)
  unfolding order_after
  group_del id h = alone (GroupDel id) (λ l o. refl) h

-- ---- A payload

-- its fault changes nothing
pub faulty : (counts : Counts) (firsts : Firsts) (a : Arrays) (order m : List ℕ) (e : Status)
    → Carried e (counts, firsts) counts firsts (with_order a order) (with_order a order) (decoding (Refused e) m)
unfolding carry_out_in decoded_status_in decoded_effect_in executed order_by followed
faulty counts firsts a order m e =
    let x = refused counts a e in
    record {
      status_is = x.status_is;
      tables_are = x.tables_are;
      order_is = by_test (eqb (code e) 0) (λ p. rw p) (λ p. rw p);
      kept = λ z. (refl, refl, refl);
    }

-- by what it asks for
pub asked : {status : Status} {then : Counts × Firsts} {counts : Counts} {firsts : Firsts} {s s' : Storage} {what : Result Command Status} (d : Decoding) → d.what ≡ what
    → Carried status then counts firsts s s' (decoding what d.members) → Carried status then counts firsts s s' d
asked {status} {then} {counts} {firsts} {s} {s'} d e h =
    subst (λ (w : Result Command Status). Carried status then counts firsts s s' (decoding w d.members)) (sym e) h
