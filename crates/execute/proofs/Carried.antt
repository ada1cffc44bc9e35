-- From what one table promises of a command to what the command comes to: the other table is as it was.
-- Assumes nothing.
use Prim.Native.Nat.{ℕ}
use mathlib.Core.Path.{◌≡◌, refl, ap}
use mathlib.Core.List.{List}
use lib.Dec.{eqb}
use Rattle.rules.specs.Answers.{code}
use Rattle.rules.specs.Places.{Places, places, live}
use Rattle.rules.specs.Rows.{entry_in}
use Rattle.rules.specs.Tables.{Arrays, arrays, cookie_of, id_of, flow_entry, stored_flow, group_entry, tables_of, with_flows, with_groups, command_status, command_effect, command_status_in, command_effect_in, executed}
use Rattle.rules.specs.declared.Counts.{Counts}
use Rattle.rules.specs.declared.Status.{Status}
use Rattle.rules.specs.declared.Flow.{Flow}
use Rattle.rules.specs.declared.Group.{Group}
use Rattle.rules.specs.declared.Command.{Command}
use Rattle.rules.specs.declared.Command.TheVariants.{FlowAdd, FlowMod, FlowDel, GroupAdd, GroupMod, GroupDel}
use Rattle.rules.specs.declared.FlowEntry.{FlowEntry}
use Rattle.rules.specs.declared.GroupEntry.{GroupEntry}
use Rattle.rules.proofs.Cases.{by_test}
use Rattle.rules.proofs.Tables.{cookie_kept}
use Rattle.tables.specs.Commands.{Changed, Added, Modded, Deleted}
use Rattle.tables.specs.Groups.{GroupPlaces, group_places, groups_in}
use Rattle.execute.specs.Outcome.{Carried}

module _ (counts : Counts) (a : Arrays) {rule : Status} (status : Status) where
  flows_part : {effect : List FlowEntry} (n : ℕ) (rows : List (List ℕ))
      → Changed (live entry_in) (places counts.flows a.flows) rule effect status (places n rows)
      → Carried status (record { flows = n; groups = counts.groups }) counts a (arrays rows a.heads a.members) (executed (tables_of counts a) rule (with_flows (tables_of counts a) effect))
  unfolding executed tables_of with_flows
  flows_part n rows h =
      record {
        status_is = h.status_is;
        tables_are = rw h.live_is (by_test (eqb (code rule) 0) (λ p. rw p) (λ p. rw p));
        kept = λ z. (ap (λ (t : Places (List ℕ)). record { flows = t.count; groups = counts.groups }) (h.kept z), ap (λ (t : Places (List ℕ)). arrays t.rows a.heads a.members) (h.kept z));
      }

  groups_part : {effect : List GroupEntry} (n : ℕ) (heads members : List (List ℕ))
      → Changed groups_in (group_places counts.groups a.heads a.members) rule effect status (group_places n heads members)
      → Carried status (record { flows = counts.flows; groups = n }) counts a (arrays a.flows heads members) (executed (tables_of counts a) rule (with_groups (tables_of counts a) effect))
  unfolding executed tables_of with_groups groups_in
  groups_part n heads members h =
      record {
        status_is = h.status_is;
        tables_are = rw h.live_is (by_test (eqb (code rule) 0) (λ p. rw p) (λ p. rw p));
        kept = λ z. (ap (λ (t : GroupPlaces). record { flows = counts.flows; groups = t.count }) (h.kept z), ap (λ (t : GroupPlaces). arrays a.flows t.heads t.members) (h.kept z));
      }

-- of a command, by its status and the counts then
abbrev pub Commanded : Status → Counts → Counts → Arrays → Arrays → Command → List ℕ → Type 0
Commanded status then counts a a' c m =
    let t = tables_of counts a in
    Carried status then counts a a' (executed t (command_status t c) (command_effect t c m))

module _ (counts : Counts) (a : Arrays) (m : List ℕ) (status : Status) (n : ℕ) where
  module _ (rows : List (List ℕ)) where
    abbrev pub FlowsTo : Command → Type 0
    FlowsTo c =
        Commanded status (record { flows = n; groups = counts.groups }) counts a (arrays rows a.heads a.members) c m

    module _ (f : Flow) (e : FlowEntry) (is : e ≡ flow_entry f) where
      pub flow_added : Added (live entry_in) cookie_of 256 (places counts.flows a.flows) e status (places n rows) → FlowsTo (FlowAdd f)
      unfolding command_status_in command_effect_in tables_of flow_entry stored_flow
      flow_added h = flows_part counts a status n rows (rw (is, cookie_kept f) at h)

      pub flow_replaced : Modded (live entry_in) cookie_of 256 (places counts.flows a.flows) e status (places n rows) → FlowsTo (FlowMod f)
      unfolding command_status_in command_effect_in tables_of flow_entry stored_flow
      flow_replaced h = flows_part counts a status n rows (rw (is, cookie_kept f) at h)

    pub flow_removed : (k : ℕ) → Deleted (live entry_in) cookie_of 256 (places counts.flows a.flows) k status (places n rows) → FlowsTo (FlowDel k)
    unfolding command_status_in command_effect_in tables_of
    flow_removed k h = flows_part counts a status n rows h

  module _ (heads members : List (List ℕ)) where
    abbrev pub GroupsTo : Command → Type 0
    GroupsTo c =
        Commanded status (record { flows = counts.flows; groups = n }) counts a (arrays a.flows heads members) c m

    module _ (g : Group) (e : GroupEntry) (is : e ≡ group_entry g m) where
      pub group_added : Added groups_in id_of 128 (group_places counts.groups a.heads a.members) e status (group_places n heads members)
          → GroupsTo (GroupAdd g)
      unfolding command_status_in command_effect_in tables_of groups_in group_entry
      group_added h = groups_part counts a status n heads members (rw is at h)

      pub group_replaced : Modded groups_in id_of 128 (group_places counts.groups a.heads a.members) e status (group_places n heads members)
          → GroupsTo (GroupMod g)
      unfolding command_status_in command_effect_in tables_of groups_in group_entry
      group_replaced h = groups_part counts a status n heads members (rw is at h)

    pub group_removed : (k : ℕ) → Deleted groups_in id_of 128 (group_places counts.groups a.heads a.members) k status (group_places n heads members)
        → GroupsTo (GroupDel k)
    unfolding command_status_in command_effect_in tables_of groups_in
    group_removed k h = groups_part counts a status n heads members h

-- a payload's fault changes nothing
pub refused : (counts : Counts) (a : Arrays) (e : Status) → Carried e counts counts a a (executed (tables_of counts a) e (tables_of counts a))
unfolding executed
refused counts a e =
    record { status_is = refl; tables_are = by_test (eqb (code e) 0) (λ p. rw p) (λ p. rw p); kept = λ z. (refl, refl) }
