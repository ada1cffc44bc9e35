-- What the search of a table's flows finds, and a frame's way on numbers.
use Rattle.std.specs.Prelude.{ℕ, ◌<◌, Bool, false, ◌≡◌, List, [], eqb, take, drop, get_or}
use Rattle.std.proofs.Math.Option.{Option, none, some}
use Rattle.rules.specs.Choose.{choose}
use Rattle.rules.specs.Address.{agree, address_bits, address_in}
use Rattle.rules.specs.Frame.{Headers as Frame-as-Headers, Decider, Exit, matches0, matches10, matches20, matches30, matches50}
use Rattle.rules.specs.Rows.{entry_in}
use Rattle.rules.specs.Tables.{live_flows}
use Rattle.rules.specs.Engine.{first_match, decides_first}
use Rattle.rules.specs.Switch.{order_in}
use Rattle.rules.specs.declared.FlowEntry.{FlowEntry}
use Rattle.rules.specs.declared.Firsts.{Firsts}
use Rattle.deciding.specs.declared.Headers.{Headers}
use Rattle.deciding.specs.declared.WayOut.{WayOut}

-- ---- The frame

-- what the rules look at in a frame
unfoldable pub headers_in : Headers → Frame-as-Headers
headers_in h =
    record { mac = h.mac; vlan = h.vlan; ethertype = h.ethertype; routable = h.routable; address = address_in (address_bits h.ethertype) h.address_high h.address_low }

-- the same with another VLAN
unfoldable pub with_vlan : ℕ → Frame-as-Headers → Frame-as-Headers
with_vlan vlan h = record { mac = h.mac; vlan = vlan; ethertype = h.ethertype; routable = h.routable; address = h.address }

-- a flow's address is the frame's, under its mask
unfoldable pub agrees : Headers → FlowEntry → Bool
agrees h e =
    let w = address_bits h.ethertype in
    agree w e.prefix (address_in w e.address_high e.address_low) (address_in w h.address_high h.address_low)

-- whether a flow is of a table and has what the table compares, by the table's number
unfoldable pub matches_in : ℕ → ℕ → Frame-as-Headers → FlowEntry → Bool
matches_in table port h e =
    choose (eqb table 50) (matches50 h.vlan h.mac e)
    (choose (eqb table 30) (matches30 h e)
    (choose (eqb table 20) (matches20 port h h.vlan e)
    (choose (eqb table 10) (matches10 port h.vlan e)
    (choose (eqb table 0) (matches0 port e)
    false))))

-- ---- The search

-- the flow that a place holds
abbrev pub flow_at : List (List ℕ) → ℕ → FlowEntry
flow_at rows at = entry_in (get_or rows at [])

-- what was found: the flow in a place, or none
abbrev pub hit_in : List (List ℕ) → Bool → ℕ → Option FlowEntry
hit_in rows found at = choose found (some (flow_at rows at)) none

-- of the live flows the first match, by any test, in the slots of an order from one up to another
abbrev pub first_between : ℕ → List (List ℕ) → List ℕ → ℕ → ℕ → (FlowEntry → Bool) → Option FlowEntry
first_between count rows order from to matches = first_match (live_flows count rows) matches (drop from (take to (take count order)))

-- a flow that decides, or none, by its place
pub record Decides (rows : List (List ℕ)) (decided : Option FlowEntry) (found : Bool) (at : ℕ) : Type 0 where
  pub inside : at < 256
  pub is : hit_in rows found at ≡ decided

-- ---- The way

-- what decides in each table, by the live flows and their order
abbrev pub decider : ℕ → List (List ℕ) → List ℕ → Firsts → Decider
decider count rows order firsts = decides_first (live_flows count rows) (order_in count firsts order)

-- a way as the rules give it
unfoldable pub exit_in : WayOut → Option Exit
exit_in w = choose w.found (some (record { vlan = w.vlan; group = w.group })) none
