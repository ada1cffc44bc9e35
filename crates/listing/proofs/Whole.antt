-- The runs of the list, one behind another: flows and groups, mods and adds, and dels before them. None begins with much.
-- Assumes nothing.
use Prim.Native.Nat.{ℕ, ◌≤◌}
use mathlib.Core.Bool.{Bool, true, false}
use mathlib.Core.Path.{◌≡◌, sym, subst}
use mathlib.Core.List.{List, ◌++◌, append_assoc}
use native.Mathlib.Omega.{arith}
use Rattle.rules.specs.Keyed.{Rising}
use Rattle.rules.specs.Tables.{Tables, Arrays, cookie_of, id_of, tables_of, live_flows, live_groups}
use Rattle.rules.specs.Undo.{flow_run, group_run, payloads}
use Rattle.rules.specs.declared.Counts.{Counts}
use Rattle.listing.specs.Listing.{half, Small, Below, Lists, InOrder, both_runs, given_back}
use Rattle.listing.specs.declared.Listed.{Listed}
use Rattle.listing.proofs.Lists.{lists_on}

module _ (c : Counts) (a : Arrays) (o : InOrder (tables_of c a)) where
  pub flows_in_order : Rising cookie_of (live_flows c.flows a.flows)
  unfolding tables_of
  flows_in_order = o.flows_rise

  pub groups_in_order : Rising id_of (live_groups c.groups a.heads a.members)
  unfolding tables_of
  groups_in_order = o.groups_rise

-- ---- No run begins with much

pub below_small : {l : Listed} → Below half l → Small l
below_small b = record { count_small = omega (arith, b.count_below); size_small = omega (arith, b.size_below) }

pub list_small : {r so_far : Listed} {after before : List ℕ} {ps : List (List ℕ)} {most : ℕ} → Lists r so_far after ps most before → Below half so_far
    → most ≤ 1152 → Small r
list_small l b h =
    record {
      count_small = omega (arith, l.count_is, l.few, b.count_below);
      size_small = omega (arith, l.at_most, b.size_below);
    }

-- ---- One behind another

payloads_are : (earlier now : Tables) → payloads earlier now ≡ both_runs 5 9 false earlier now ++ given_back earlier now
unfolding payloads both_runs given_back
payloads_are earlier now = simp append_assoc

module _ {so_far a r : Listed} {before mid after : List ℕ} where
  pub both_listed : (flow_command group_command : ℕ) (there : Bool) (other t : Tables)
      → Lists a so_far mid (flow_run flow_command there other.flows t.flows) 256 before
      → Lists r a after (group_run group_command there other.groups t.groups) 128 mid
      → Lists r so_far after (both_runs flow_command group_command there other t) 384 before
  unfolding both_runs
  both_listed f g there other t x y = lists_on x y

  pub back_listed : (earlier now : Tables) → Lists a so_far mid (both_runs 4 8 true now earlier) 384 before
      → Lists r a after (both_runs 3 7 false now earlier) 384 mid → Lists r so_far after (given_back earlier now) 768 before
  unfolding given_back
  back_listed earlier now x y = lists_on x y

  pub all_listed : (earlier now : Tables) → Lists a so_far mid (both_runs 5 9 false earlier now) 384 before
      → Lists r a after (given_back earlier now) 768 mid → Lists r so_far after (payloads earlier now) 1152 before
  all_listed earlier now x y = subst (λ ps. Lists r so_far after ps 1152 before) (sym (payloads_are earlier now)) (lists_on x y)
