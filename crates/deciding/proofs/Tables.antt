-- From table to table: what a frame's way is after the flow that decides in a table was found, or none was.
-- Assumes nothing.
use Prim.Native.Nat.{ℕ}
use mathlib.Core.Bool.{Bool, true, false, not, ◌&&◌, ◌||◌}
use mathlib.Core.Option.{Option, none, some}
use mathlib.Core.Path.{◌≡◌, refl, sym}
use mathlib.Core.List.{List}
use native.Mathlib.Omega.{arith}
use lib.Dec.{eqb}
use lib.ListN.{take, length-take}
use lib.Seq.{take_all, take-length}
use Rattle.rules.specs.Choose.{choose}
use Rattle.rules.specs.Frame.{Decider, Headers, Exit, matches0, matches10, matches20, matches30, passes_table0, exit_of, from_table50, from_table30, after_table20, from_table20, after_table10, from_table10, way_of}
use Rattle.rules.specs.Engine.{begins_at, ends_at, decides_first}
use Rattle.rules.specs.Switch.{order_in}
use Rattle.rules.specs.declared.FlowEntry.{FlowEntry}
use Rattle.rules.specs.declared.Firsts.{Firsts}
use Rattle.rules.proofs.Cases.{by_test, not_both}
use Rattle.deciding.specs.Way.{matches_in, with_vlan, flow_at, hit_in, first_between, Decides, decider, exit_in}
use Rattle.deciding.specs.declared.WayOut.{WayOut}

-- A frame is dropped at a table, or goes on
pub record Passage (drop : Bool) (x y : Option Exit) : Type 0 where
  pub ends : drop ≡ true → x ≡ none
  pub goes : drop ≡ false → x ≡ y

passage : (drop : Bool) (x y : Option Exit) → x ≡ choose drop none y → Passage drop x y
passage true x y e = record { ends = λ p. e; goes = λ p. not_both p }
passage false x y e = record { ends = λ p. not_both (sym p); goes = λ p. e }

-- ---- What decides in a table, by the slots that are searched

module _ (count : ℕ) (rows : List (List ℕ)) (order : List ℕ) (firsts : Firsts) (m : FlowEntry → Bool) {found : Bool} {at : ℕ} where
  pub in_0 : Decides rows (first_between count rows order 0 firsts.vlan m) found at → Decides rows (decider count rows order firsts 0 m) found at
  unfolding decides_first begins_at ends_at order_in
  in_0 d = d

  pub in_10 : Decides rows (first_between count rows order firsts.vlan firsts.termination m) found at → Decides rows (decider count rows order firsts 10 m) found at
  unfolding decides_first begins_at ends_at order_in
  in_10 d = d

  pub in_20 : Decides rows (first_between count rows order firsts.termination firsts.routing m) found at → Decides rows (decider count rows order firsts 20 m) found at
  unfolding decides_first begins_at ends_at order_in
  in_20 d = d

  pub in_30 : Decides rows (first_between count rows order firsts.routing firsts.bridging m) found at → Decides rows (decider count rows order firsts 30 m) found at
  unfolding decides_first begins_at ends_at order_in
  in_30 d = d

  -- up to the last that is live
  pub in_50 : Decides rows (first_between count rows order firsts.bridging count m) found at → Decides rows (decider count rows order firsts 50 m) found at
  unfolding decides_first begins_at ends_at order_in
  in_50 d =
      let all : take count (take count order) ≡ take count order = take_all count (take count order) (omega (arith, length-take count order)) in
      rw (take-length (take count order)) (rw all at d)

-- ---- Tables 0 and 10, whatever decides: e is the flow of the place that was found

module _ (decides : Decider) {rows : List (List ℕ)} {at : ℕ} {found : Bool} {e : FlowEntry} (port : ℕ) (h : Headers) (u : e ≡ flow_at rows at) where
  -- in table 0 a miss goes on
  pub after_0 : Decides rows (decides 0 (matches_in 0 port h)) found at
      → Passage (found && eqb e.goto_tbl 0) (way_of decides port h) (from_table10 decides port h)
  unfolding way_of passes_table0 matches_in
  after_0 d =
      let b : decides 0 (matches0 port) ≡ choose found (some e) none = rw u (sym d.is) in
      passage _ _ _ (by_test found
      (λ p. by_test (eqb e.goto_tbl 0) (λ q. simp (b, p, q)) (λ q. simp (b, p, q)))
      (λ p. simp (b, p)))

  pub after_10 : Decides rows (decides 10 (matches_in 10 port h)) found at
      → Passage (not found || eqb e.goto_tbl 0) (from_table10 decides port h) (from_table20 decides port h (choose (eqb h.vlan 0) e.new_vlan_id h.vlan))
  unfolding from_table10 after_table10 matches_in
  after_10 d =
      let b : decides 10 (matches10 port h.vlan) ≡ choose found (some e) none = rw u (sym d.is) in
      passage _ _ _ (by_test found (λ p. simp (b, p)) (λ p. simp (b, p)))

-- the frame's own VLAN is not looked at from table 20 on
after_any : (decides : Decider) (vlan : ℕ) (h : Headers) (r : Option FlowEntry) → after_table20 decides (with_vlan vlan h) vlan r ≡ after_table20 decides h vlan r
unfolding with_vlan after_table20 from_table30 matches30
after_any decides vlan h none = refl
after_any decides vlan h (some e) = refl

pub with_vlan_lem : (decides : Decider) (port vlan : ℕ) (h : Headers) → from_table20 decides port (with_vlan vlan h) vlan ≡ from_table20 decides port h vlan
unfolding with_vlan from_table20 matches20
with_vlan_lem decides port vlan h = after_any decides vlan h (decides 20 (matches20 port h vlan))

-- ---- The way out, by what was found

module _ (rows : List (List ℕ)) (vlan at : ℕ) (found : Bool) {e : FlowEntry} (u : e ≡ flow_at rows at) where
  pub leaves : Passage (not found || eqb e.goto_tbl 0) (exit_of vlan (hit_in rows found at)) (choose e.has_group (some (record { vlan = vlan; group = e.group_id })) none)
  unfolding exit_of
  leaves = passage _ _ _ (rw (← u) (by_test found (λ p. simp p) (λ p. simp p)))

-- ---- Tables 50, 30 and 20

module _ (decides : Decider) {rows : List (List ℕ)} {at : ℕ} {found : Bool} (port : ℕ) (h : Headers) where
  pub bridged_out : Decides rows (decides 50 (matches_in 50 port h)) found at
      → exit_of h.vlan (hit_in rows found at) ≡ from_table50 decides h.mac h.vlan
  unfolding from_table50 matches_in
  bridged_out d = rw d.is refl

  pub routed_out : h.routable ≡ true → Decides rows (decides 30 (matches_in 30 port h)) found at
      → exit_of h.vlan (hit_in rows found at) ≡ from_table30 decides h h.vlan
  unfolding from_table30 matches_in matches30
  routed_out e d = rw (e, d.is) refl

  -- no flow of table 20 decides, or one does
  module _ (d : Decides rows (decides 20 (matches_in 20 port h)) found at) where
    hit : decides 20 (matches20 port h h.vlan) ≡ hit_in rows found at
    unfolding matches_in
    hit = sym d.is

    pub bridged_on : found ≡ false → from_table50 decides h.mac h.vlan ≡ from_table20 decides port h h.vlan
    unfolding from_table20 after_table20
    bridged_on t = rw (hit, t) refl

    pub routed_on : found ≡ true → from_table30 decides h h.vlan ≡ from_table20 decides port h h.vlan
    unfolding from_table20 after_table20
    routed_on t = rw (hit, t) refl

pub too_short : (decides : Decider) (h : Headers) → h.routable ≡ false → none ≡ from_table30 decides h h.vlan
unfolding from_table30
too_short decides h e = rw e refl

pub nowhere : (w : WayOut) → w.found ≡ false → exit_in w ≡ none
unfolding exit_in
nowhere w p = simp p
