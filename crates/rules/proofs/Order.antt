-- Points of request 2026-05, computed by the rules: the order after each command of a short list, where the tables begin in it, and the flow that
-- both engines find. One table, one test, one theorem.
-- Assumes nothing.
use Prim.Native.Nat.{ℕ, ◌*◌, ◌^◌}
use mathlib.Core.Path.{◌≡◌, refl}
use mathlib.Core.Bool.{true, false}
use mathlib.Core.Option.{Option, none, some}
use mathlib.Core.List.{List, [], ◌∷◌, ◌++◌}
use lib.Dec.{eqb}
use Rattle.rules.specs.Answers.{code}
use Rattle.rules.specs.Keyed.{position, holds, insert, replace, remove}
use Rattle.rules.specs.Tables.{Tables, stored_flow, flow_entry, empty_tables, add_status, held_status, command_status_in, with_flows, command_effect_in, executed}
use Rattle.rules.specs.Frame.{best, beats}
use Rattle.rules.specs.Engine.{Engine, Order, no_order, plain, ordered, stands_in, put_over, taken_out, decides_best, precedes, flow_at, is_before, halved, slot_of, own_slot, raise, lower, later, earlier, firsts_with, firsts_without, with_place, without_place, same_rank, order_added, order_deleted, order_changed, order_after, begins_at, ends_at, first_match, decides_first}
use Rattle.rules.specs.declared.Match.{Match}
use Rattle.rules.specs.declared.Match.TheVariants.{Vlan, UnicastRouting, Bridging}
use Rattle.rules.specs.declared.FlowEntry.{FlowEntry}
use Rattle.rules.specs.declared.Flow.{Flow}
use Rattle.rules.specs.declared.Command.{Command}
use Rattle.rules.specs.declared.Command.TheVariants.{FlowAdd, FlowMod, FlowDel}
use Rattle.rules.proofs.PointTable.{Point, point, all}

-- ---- Commands, one after another, by an engine

record State : Type 0 where
  tables : Tables
  order : Order

done : Engine → List Command → State → State
done e [] k = k
done e (c ∷ cs) k =
    done e cs
    (record {
      tables = (executed k.tables (command_status_in e.store k.tables c) (command_effect_in e.store k.tables c [])).tables;
      order = e.follows k.tables.flows c k.order;
    })

from : Engine → List Command → State
from e cs = done e cs (record { tables = empty_tables; order = no_order })

flow : ℕ → ℕ → Match → Flow
flow cookie priority m = record { cookie = cookie; priority = priority; hardtime = 0; idletime = 0; goto_tbl = 0; matching = m }

-- a flow of table 50 for every frame of VLAN 1, one of table 10 and one of table 30 with a prefix
bridge : ℕ → ℕ → Flow
bridge cookie priority = flow cookie priority (Bridging 1 false 0 false 0)

vlan : ℕ → Flow
vlan cookie = flow cookie 0 (Vlan 1 1 0)

route : ℕ → ℕ → ℕ → Flow
route cookie priority prefix = flow cookie priority (UnicastRouting 0x0800 (0x0A000000 * 2 ^ 32) 0 prefix false 0)

-- ---- What is seen

cookies : List FlowEntry → List ℕ → List ℕ
cookies flows [] = []
cookies flows (p ∷ ps) = (flow_at flows p).cookie ∷ cookies flows ps

-- the cookies in the order in which they decide, and where tables 10, 20, 30 and 50 begin
seen : List Command → List ℕ
seen cs =
    let k = from ordered cs in
    cookies k.tables.flows k.order.places
    ++ (k.order.firsts.vlan ∷ k.order.firsts.termination ∷ k.order.firsts.routing ∷ k.order.firsts.bridging ∷ [])

cookie : Option FlowEntry → ℕ
cookie none = 0
cookie (some e) = e.cookie

-- the flow that decides among all of a table, by both engines
both : ℕ → List Command → List ℕ
both table cs =
    let p = from plain cs in
    let o = from ordered cs in
    cookie (plain.decides p.tables.flows p.order table (λ e. eqb e.table table))
    ∷ cookie (ordered.decides o.tables.flows o.order table (λ e. eqb e.table table))
    ∷ []

-- ---- The table

three : List Command
three = FlowAdd (bridge 7 9) ∷ FlowAdd (bridge 3 1) ∷ FlowAdd (bridge 5 9) ∷ []

mixed : List Command
mixed = three ++ (FlowAdd (vlan 4) ∷ FlowAdd (route 6 9 8) ∷ FlowAdd (route 2 1 16) ∷ [])

points : List Point
points =
    point (seen three) (5 ∷ 7 ∷ 3 ∷ 0 ∷ 0 ∷ 0 ∷ 0 ∷ [])  -- priority falling, cookie rising
    ∷ point (seen (three ++ (FlowMod (bridge 3 10) ∷ []))) (3 ∷ 5 ∷ 7 ∷ 0 ∷ 0 ∷ 0 ∷ 0 ∷ [])  -- a mod may move
    ∷ point (seen (three ++ (FlowMod (bridge 3 1) ∷ []))) (5 ∷ 7 ∷ 3 ∷ 0 ∷ 0 ∷ 0 ∷ 0 ∷ [])
    ∷ point (seen mixed) (4 ∷ 2 ∷ 6 ∷ 5 ∷ 7 ∷ 3 ∷ 0 ∷ 1 ∷ 1 ∷ 3 ∷ [])  -- table by table, in 30 the longest prefix first
    ∷ point (seen (mixed ++ (FlowDel 4 ∷ []))) (2 ∷ 6 ∷ 5 ∷ 7 ∷ 3 ∷ 0 ∷ 0 ∷ 0 ∷ 2 ∷ [])  -- the later tables begin earlier
    ∷ point (seen (mixed ++ (FlowDel 5 ∷ FlowAdd (bridge 5 0) ∷ []))) (4 ∷ 2 ∷ 6 ∷ 7 ∷ 3 ∷ 5 ∷ 0 ∷ 1 ∷ 1 ∷ 3 ∷ [])  -- the same cookie, elsewhere
    ∷ point (seen (mixed ++ (FlowMod (route 7 0 24) ∷ []))) (4 ∷ 7 ∷ 2 ∷ 6 ∷ 5 ∷ 3 ∷ 0 ∷ 1 ∷ 1 ∷ 4 ∷ [])  -- to another table
    ∷ point (both 50 three) (5 ∷ 5 ∷ [])
    ∷ point (both 30 mixed) (2 ∷ 2 ∷ [])
    ∷ point (both 20 mixed) (0 ∷ 0 ∷ [])
    ∷ point (both 50 (mixed ++ (FlowDel 5 ∷ []))) (7 ∷ 7 ∷ [])
    ∷ point (both 10 (mixed ++ (FlowMod (vlan 3) ∷ []))) (3 ∷ 3 ∷ [])
    ∷ []

points_hold : all points ≡ true
unfolding points three mixed both cookie seen cookies route vlan bridge flow from done code position holds insert replace remove stored_flow flow_entry empty_tables add_status held_status command_status_in with_flows command_effect_in executed best beats no_order stands_in put_over taken_out decides_best precedes is_before halved slot_of own_slot raise lower later earlier firsts_with firsts_without with_place without_place same_rank order_added order_deleted order_changed order_after begins_at ends_at first_match decides_first
points_hold = refl
