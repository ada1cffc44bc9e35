-- Request 2026-05: how a switch keeps its flows and finds the one that decides. `plain` is what the papers say, "an unordered store with a full
-- scan"; `ordered` is what the device does. One step (Switch) takes either, and crates/engines proves that they come to the same.
use Rattle.std.specs.Prelude.{ℕ, zero, suc, ◌+◌, ◌-◌, ◌/◌, Bool, true, false, ◌&&◌, List, [], ◌∷◌, ◌++◌, map, length, take, drop, get_or, ltb, leb, eqb}
use Rattle.std.proofs.Math.Option.{Option, none, some}
use Rattle.rules.specs.Choose.{choose}
use Rattle.rules.specs.Limits.{max_flows}
use Rattle.rules.specs.Rows.{entry_in}
use Rattle.rules.specs.Keyed.{insert_at, without, position}
use Rattle.rules.specs.Tables.{Store, by_cookie, cookie_of, flow_entry}
use Rattle.rules.specs.Frame.{Decider, best, beats}
use Rattle.rules.specs.declared.FlowEntry.{FlowEntry}
use Rattle.rules.specs.declared.Firsts.{Firsts}
use Rattle.rules.specs.declared.Command.{Command}
use Rattle.rules.specs.declared.Command.TheVariants.{FlowAdd, FlowMod, FlowDel, GroupAdd, GroupMod, GroupDel}

-- ---- Engines

-- What is kept beside the flows: their places in the order in which they decide, table by table, and where tables 10, 20, 30 and 50 begin in it
pub record Order : Type 0 where
  pub places : List ℕ
  pub firsts : Firsts

unfoldable pub no_order : Order
no_order = record { places = []; firsts = record { vlan = 0; termination = 0; routing = 0; bridging = 0 } }

-- how flows are stored; the order after a command that completed OK, by the flows before it; and what decides in a table
pub record Engine : Type 0 where
  pub store : Store
  pub follows : List FlowEntry → Command → Order → Order
  pub decides : List FlowEntry → Order → Decider

-- ---- The plain engine

-- a flow with this cookie stands somewhere
unfoldable pub stands_in : ℕ → List FlowEntry → Bool
stands_in k [] = false
stands_in k (e ∷ es) = choose (eqb e.cookie k) true (stands_in k es)

unfoldable pub put_over : FlowEntry → List FlowEntry → List FlowEntry
put_over e [] = []
put_over e (g ∷ gs) = choose (eqb g.cookie e.cookie) (e ∷ gs) (g ∷ put_over e gs)

unfoldable pub taken_out : ℕ → List FlowEntry → List FlowEntry
taken_out k [] = []
taken_out k (g ∷ gs) = choose (eqb g.cookie k) gs (g ∷ taken_out k gs)

-- an add goes behind all others
abbrev pub unordered : Store
unordered = record { there = stands_in; added = λ e l. l ++ (e ∷ []); changed = put_over; deleted = taken_out }

-- "a full scan": the best of the table's flows that match
unfoldable pub decides_best : List FlowEntry → Decider
decides_best flows table m = best m beats flows

-- it keeps no order
abbrev pub plain : Engine
plain = record { store = unordered; follows = λ flows c o. o; decides = λ flows o. decides_best flows }

-- ---- The order in which flows decide

-- of two flows the one whose table is lower, and in one table the one that decides
unfoldable pub precedes : FlowEntry → FlowEntry → Bool
precedes a b = choose (eqb a.table b.table) (beats a b) (ltb a.table b.table)

-- the flow in a place; a place that is not live has none, and any will do
abbrev pub flow_at : List FlowEntry → ℕ → FlowEntry
flow_at flows i = get_or flows i (entry_in [])

-- the flow in a live place precedes another
unfoldable pub is_before : List FlowEntry → FlowEntry → ℕ → Bool
is_before flows e place = ltb place (length flows) && precedes (flow_at flows place) e

-- By halves, between two slots of an order: the first one that does not pass the test, where those that do stand in front. n: how often to
-- halve at most
unfoldable pub halved : (ℕ → Bool) → ℕ → ℕ → ℕ → ℕ
halved before zero low high = low
halved before (suc n) low high =
    choose (ltb low high)
    (choose (before ((low + high) / 2)) (halved before n ((low + high) / 2 + 1) high) (halved before n low ((low + high) / 2)))
    low

-- the slot of a flow: behind those that precede it
unfoldable pub slot_of : List FlowEntry → List ℕ → FlowEntry → ℕ
slot_of flows places e = halved (λ i. is_before flows e (get_or places i 0)) (length places) 0 (length places)

-- the slot of the flow that stands in a place; were it nowhere, the last
unfoldable pub own_slot : List FlowEntry → List ℕ → ℕ → ℕ
own_slot flows places at =
    let i = slot_of flows places (flow_at flows at) in
    choose (ltb i (length places)) i (length places - 1)

-- A flow that is put in or taken out at a place moves those from there on, or behind it, by one. A place is a byte
unfoldable pub raise : ℕ → ℕ → ℕ
raise at x = choose (leb at x && ltb x 255) (x + 1) x

unfoldable pub lower : ℕ → ℕ → ℕ
lower at x = choose (ltb at x) (x - 1) x

-- with the flow of a table the later tables begin one slot later, or earlier
unfoldable pub later : Bool → ℕ → ℕ
later moves n = choose (moves && ltb n max_flows) (n + 1) n

unfoldable pub earlier : Bool → ℕ → ℕ
earlier moves n = choose moves (n - 1) n

unfoldable pub firsts_with : ℕ → Firsts → Firsts
firsts_with table f =
    record {
      vlan = later (ltb table 10) f.vlan;
      termination = later (ltb table 20) f.termination;
      routing = later (ltb table 30) f.routing;
      bridging = later (ltb table 50) f.bridging;
    }

unfoldable pub firsts_without : ℕ → Firsts → Firsts
firsts_without table f =
    record {
      vlan = earlier (ltb table 10) f.vlan;
      termination = earlier (ltb table 20) f.termination;
      routing = earlier (ltb table 30) f.routing;
      bridging = earlier (ltb table 50) f.bridging;
    }

-- ---- What a command does to it

-- the order with the flow e in a place, and without the one that stands in it
unfoldable pub with_place : List FlowEntry → ℕ → FlowEntry → Order → Order
with_place flows at e o =
    record { places = insert_at (slot_of flows o.places e) at o.places; firsts = firsts_with e.table o.firsts }

unfoldable pub without_place : List FlowEntry → ℕ → Order → Order
without_place flows at o =
    record {
      places = without (own_slot flows o.places at) o.places;
      firsts = firsts_without (flow_at flows at).table o.firsts;
    }

-- the same places by their new numbers
abbrev pub renumbered : (ℕ → ℕ) → Order → Order
renumbered number o = record { places = map number o.places; firsts = o.firsts }

-- nothing that the order goes by differs
unfoldable pub same_rank : FlowEntry → FlowEntry → Bool
same_rank a b = eqb a.table b.table && eqb a.prefix b.prefix && eqb a.priority b.priority

-- by the flows before the command, and the place of its cookie among them
unfoldable pub order_added : List FlowEntry → ℕ → FlowEntry → Order → Order
order_added flows at e o =
    record {
      places = insert_at (slot_of flows o.places e) at (map (raise at) o.places);
      firsts = firsts_with e.table o.firsts;
    }

unfoldable pub order_deleted : List FlowEntry → ℕ → Order → Order
order_deleted flows at o = renumbered (lower at) (without_place flows at o)

-- "A mod may move": where the rank is another one, the flow goes to where that belongs
unfoldable pub order_changed : List FlowEntry → ℕ → FlowEntry → Order → Order
order_changed flows at e o = choose (same_rank (flow_at flows at) e) o (with_place flows at e (without_place flows at o))

unfoldable pub order_after : List FlowEntry → Command → Order → Order
order_after flows (FlowAdd f) o = order_added flows (position cookie_of f.cookie flows) (flow_entry f) o
order_after flows (FlowMod f) o = order_changed flows (position cookie_of f.cookie flows) (flow_entry f) o
order_after flows (FlowDel k) o = order_deleted flows (position cookie_of k flows) o
order_after flows (GroupAdd g) o = o
order_after flows (GroupMod g) o = o
order_after flows (GroupDel k) o = o

-- ---- The search

-- where a table's flows begin, and where they end: where the next table's begin
unfoldable pub begins_at : Order → ℕ → ℕ
begins_at o table =
    choose (ltb table 10) 0
    (choose (ltb table 20) o.firsts.vlan
    (choose (ltb table 30) o.firsts.termination
    (choose (ltb table 50) o.firsts.routing
    o.firsts.bridging)))

unfoldable pub ends_at : Order → ℕ → ℕ
ends_at o table =
    choose (ltb table 10) o.firsts.vlan
    (choose (ltb table 20) o.firsts.termination
    (choose (ltb table 30) o.firsts.routing
    (choose (ltb table 50) o.firsts.bridging
    (length o.places))))

-- "the first match ends the search"; a place that is not live has no flow to match
unfoldable pub first_match : List FlowEntry → (FlowEntry → Bool) → List ℕ → Option FlowEntry
first_match flows m [] = none
first_match flows m (p ∷ ps) = choose (ltb p (length flows) && m (flow_at flows p)) (some (flow_at flows p)) (first_match flows m ps)

unfoldable pub decides_first : List FlowEntry → Order → Decider
decides_first flows o table m = first_match flows m (drop (begins_at o table) (take (ends_at o table) o.places))

abbrev pub ordered : Engine
ordered = record { store = by_cookie; follows = order_after; decides = decides_first }
