-- Flows that are kept "in the order in which they decide".
use Rattle.std.specs.Prelude.{ℕ, suc, ◌<◌, true, ◌≡◌, ltb, length}
use mathlib.Core.List.{List, [], ◌∷◌, map, Memᴰ}
use Rattle.rules.specs.Choose.{choose}
use Rattle.rules.specs.Engine.{Order, precedes, flow_at}
use Rattle.rules.specs.declared.FlowEntry.{FlowEntry}
use Rattle.rules.specs.declared.Firsts.{Firsts}

-- a flow precedes all of a list
abbrev pub Leads : FlowEntry → List FlowEntry → Type 0
Leads e [] = Unit
Leads e (g ∷ gs) = (precedes e g ≡ true) × Leads e gs

-- each precedes all behind it: by table, then the longer prefix, the higher priority, the lower cookie
abbrev pub Deciding : List FlowEntry → Type 0
Deciding [] = Unit
Deciding (e ∷ es) = Leads e es × Deciding es

-- how many flows are of a table below this number
unfoldable pub below : ℕ → List FlowEntry → ℕ
below table [] = 0
below table (e ∷ es) = choose (ltb e.table table) (suc (below table es)) (below table es)

unfoldable pub firsts_of : List FlowEntry → Firsts
firsts_of l = record { vlan = below 10 l; termination = below 20 l; routing = below 30 l; bridging = below 50 l }

-- the flows as an order has them
abbrev pub listed : List FlowEntry → Order → List FlowEntry
listed flows o = map (flow_at flows) o.places

-- an order of these flows: each stands in it, once, where it decides, and each table begins where its flows do
pub record Kept (flows : List FlowEntry) (o : Order) : Type 0 where
  pub deciding : Deciding (listed flows o)
  pub live : (p : ℕ) → Memᴰ p o.places → p < length flows
  pub each : (p : ℕ) → p < length flows → Memᴰ p o.places
  pub firsts_are : o.firsts ≡ firsts_of (listed flows o)
