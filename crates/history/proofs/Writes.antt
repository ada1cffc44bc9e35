-- What an accepted register write does to the ring and the tables, by its event: the one place that goes through the registers.
-- Assumes nothing.
use Prim.Native.Nat.{ℕ, zero, suc, ◌+◌, ◌-◌, ◌%◌, ◌^◌, ◌≤◌, ◌<◌}
use mathlib.Core.Bool.{Bool, true, false, not, ◌&&◌, ◌||◌}
use mathlib.Core.Path.{◌≡◌, refl, sym}
use native.Mathlib.Omega.{arith}
use native.Mathlib.Nat.{pow-le-pow_right}
use lib.Dec.{ltb, leb, eqb}
use borrow.Author.Tests.{ltb-true, ltb-false, leb-true, eqb-true, not-false}
use Rattle.std.specs.Prelude.{Option, Some, None}
use Rattle.rules.specs.Choose.{choose, refuse}
use Rattle.rules.specs.Ring.{zero_ring, distance, outstanding, advance, base_effect, power_up_to, size_refusal, size_effect, head_refusal, head_effect, credits_refusal, credits_effect, ctrl_effect, ring_wide, ring_store, base_latched, ring_latched}
use Rattle.rules.specs.Registers.{command_ring, Written, access, upper_of, narrow_at, covered_by, wide_at, is_wide, register_at, with_ring, with_links, with_test, with_test64, with_enable, fresh_registers, reset_registers, sets, in_ring, store, latch_effect, taken, joined, write_to, unless_refused, write}
use Rattle.rules.specs.declared.Registers.{Registers}
use Rattle.rules.specs.declared.Register.{Register}
use Rattle.rules.specs.declared.Register.TheVariants.{Magic, TestReg, TestReg64, Control, PortPhysCount, PortPhysLinkStatus, PortPhysEnable, SwitchId, OfRing}
use Rattle.rules.specs.declared.RingRegister.TheVariants.{BaseAddr, Size, Head, Tail, Ctrl, Credits}
use Rattle.rules.specs.declared.Access.{Access}
use Rattle.rules.specs.declared.Access.TheVariants.{NotAllowed, Reserved, Whole, Lower, Upper}
use Rattle.rules.proofs.Cases.{by_test, by_eq, not_both, and_left, and_right}
use Rattle.history.specs.Events.{Event, ring_event, store_event, write_event}
use Rattle.history.specs.Events.Event.{Other, WritesBase, WritesSize, WritesHead, WritesCredits, ResetsRing, ResetsDevice, Processes}

-- the ring's numbers after a write, whether the tables were emptied, and that the port count stayed
pub record Leaves (d : Registers) (w : Written) (size head tail credits : ℕ) (resets : Bool) : Type 0 where
  pub size_is : (command_ring w.registers).size ≡ size
  pub head_is : (command_ring w.registers).head ≡ head
  pub tail_is : (command_ring w.registers).tail ≡ tail
  pub credits_is : (command_ring w.registers).credits ≡ credits
  pub resets_is : w.resets ≡ resets
  pub ports_is : w.registers.ports ≡ d.ports

abbrev pub Does : Registers → Written → Event → Type 0
Does d w Other = Leaves d w (command_ring d).size (command_ring d).head (command_ring d).tail (command_ring d).credits false
Does d w WritesBase = Leaves d w (command_ring d).size 0 0 (command_ring d).credits false
Does d w (WritesSize v) = Leaves d w v 0 0 (command_ring d).credits false × (v ≤ 65536)
Does d w (WritesHead v) =
    Leaves d w (command_ring d).size v (command_ring d).tail (command_ring d).credits false × (v < (command_ring d).size)
    × (distance (command_ring d).size (command_ring d).tail (command_ring d).head + distance (command_ring d).size (command_ring d).head v ≤ (command_ring d).size - 1)
Does d w (WritesCredits n) =
    Leaves d w (command_ring d).size (command_ring d).head (command_ring d).tail ((command_ring d).credits - n) false × (n ≤ (command_ring d).credits)
Does d w ResetsRing = Leaves d w 0 0 0 0 false
Does d w ResetsDevice = Leaves d w 0 0 0 0 true
Does d w Processes = ⊥

-- a test that would have refused did not hold
not_refused : (t : Bool) → refuse t 2 0 ≡ 0 → t ≡ false
not_refused true e = absurd (omega arith)
not_refused false e = refl

or_cases : {G : Type 0} (a b : Bool) → a || b ≡ true → (a ≡ true → G) → (b ≡ true → G) → G
or_cases true b e f g = f refl
or_cases false b e f g = g e

-- a size that is allowed is 65,536 at most
power_le : (k v : ℕ) → k ≤ 16 → power_up_to k v ≡ true → v ≤ 65536
unfolding power_up_to
power_le zero v h e = not_both (sym e)
power_le (suc k) v h e =
    or_cases (eqb v (2 ^ suc k)) (power_up_to k v) e
    (λ p. let q : 2 ^ suc k ≤ 2 ^ 16 = pow-le-pow_right (omega arith) h in omega (arith, eqb-true v (2 ^ suc k) p))
    (λ p. power_le k v (omega arith) p)

-- a write that leaves the ring alone
plain : (d : Registers) (w : Written) → command_ring w.registers ≡ command_ring d → w.resets ≡ false → w.registers.ports ≡ d.ports → Does d w Other
plain d w r t p = record { size_is = rw r; head_is = rw r; tail_is = rw r; credits_is = rw r; resets_is = t; ports_is = p }

store_does : (d : Registers) (r : Register) (v : ℕ) → (store d r v).refusal ≡ 0 → Does d (store d r v) (store_event r v)
unfolding store store_event ring_event sets in_ring ring_store with_ring with_test with_test64 with_enable
store_does d Magic v e = plain d _ refl refl refl
store_does d TestReg v e = plain d _ refl refl refl
store_does d TestReg64 v e = plain d _ refl refl refl
store_does d Control v e =
    by_test (eqb (v % 2) 1)
    (λ p. rw p (unfold reset_registers with_links fresh_registers zero_ring in
    record { size_is = refl; head_is = refl; tail_is = refl; credits_is = refl; resets_is = refl; ports_is = refl }))
    (λ p. rw p (plain d _ refl refl refl))
store_does d PortPhysCount v e = plain d _ refl refl refl
store_does d PortPhysLinkStatus v e = plain d _ refl refl refl
store_does d PortPhysEnable v e = plain d _ refl refl refl
store_does d SwitchId v e = plain d _ refl refl refl
store_does d (OfRing n BaseAddr) v e =
    unfold base_effect in record { size_is = refl; head_is = refl; tail_is = refl; credits_is = refl; resets_is = refl; ports_is = refl }
store_does d (OfRing n Size) v e =
    unfold size_effect size_refusal in (
      record { size_is = refl; head_is = refl; tail_is = refl; credits_is = refl; resets_is = refl; ports_is = refl },
      power_le 16 v (omega arith) (not-false (power_up_to 16 v) (not_refused (not (power_up_to 16 v)) e)),
    )
store_does d (OfRing n Head) v e =
    unfold head_effect head_refusal outstanding advance in
    let t : ltb v (command_ring d).size && leb (distance (command_ring d).size (command_ring d).tail (command_ring d).head + distance (command_ring d).size (command_ring d).head v) ((command_ring d).size - 1) ≡ true =
    not-false _ (not_refused _ e) in (
      record { size_is = refl; head_is = refl; tail_is = refl; credits_is = refl; resets_is = refl; ports_is = refl },
      ltb-true v (command_ring d).size (and_left _ _ t),
      leb-true _ _ (and_right (ltb v (command_ring d).size) _ t),
    )
store_does d (OfRing n Tail) v e = plain d _ refl refl refl
store_does d (OfRing n Ctrl) v e =
    unfold ctrl_effect zero_ring in
    by_test (eqb (v % 2) 1)
    (λ p. rw p (record { size_is = refl; head_is = refl; tail_is = refl; credits_is = refl; resets_is = refl; ports_is = refl }))
    (λ p. rw p (record { size_is = refl; head_is = refl; tail_is = refl; credits_is = refl; resets_is = refl; ports_is = refl }))
store_does d (OfRing n Credits) v e =
    unfold credits_effect credits_refusal in (
      record { size_is = refl; head_is = refl; tail_is = refl; credits_is = refl; resets_is = refl; ports_is = refl },
      ltb-false (command_ring d).credits v (not_refused (ltb (command_ring d).credits v) e),
    )

latch_does : (d : Registers) (r : Register) (v : ℕ) → Does d (sets 0 (latch_effect d r v)) Other
unfolding sets latch_effect with_test64 with_enable with_ring ring_latched base_latched
latch_does d Magic v = plain d _ refl refl refl
latch_does d TestReg v = plain d _ refl refl refl
latch_does d TestReg64 v = plain d _ refl refl refl
latch_does d Control v = plain d _ refl refl refl
latch_does d PortPhysCount v = plain d _ refl refl refl
latch_does d PortPhysLinkStatus v = plain d _ refl refl refl
latch_does d PortPhysEnable v = plain d _ refl refl refl
latch_does d SwitchId v = plain d _ refl refl refl
latch_does d (OfRing n BaseAddr) v = record { size_is = refl; head_is = refl; tail_is = refl; credits_is = refl; resets_is = refl; ports_is = refl }
latch_does d (OfRing n Size) v = plain d _ refl refl refl
latch_does d (OfRing n Head) v = plain d _ refl refl refl
latch_does d (OfRing n Tail) v = plain d _ refl refl refl
latch_does d (OfRing n Ctrl) v = plain d _ refl refl refl
latch_does d (OfRing n Credits) v = plain d _ refl refl refl

-- ---- An upper half is reached only of a register of 8 bytes

abbrev Halves : Access → Type 0
Halves NotAllowed = Unit {0}
Halves Reserved = Unit {0}
Halves (Whole r) = Unit {0}
Halves (Lower r) = Unit {0}
Halves (Upper r) = is_wide r ≡ true

choose_either : (P : Access → Type 0) (t : Bool) (a b : Access) → P a → P b → P (choose t a b)
choose_either P true a b f g = f
choose_either P false a b f g = g

upper_halves : (l : Option Register) → Halves (upper_of l)
unfolding upper_of
upper_halves None = tt
upper_halves (Some r) = by_test (is_wide r) (λ p. rw p p) (λ p. rw p tt)

narrow_halves : (l before : Option Register) → Halves (narrow_at l before)
unfolding narrow_at
narrow_halves None before = upper_halves before
narrow_halves (Some r) before = choose_either Halves (is_wide r) (Lower r) (Whole r) tt tt

wide_halves : (l after : Option Register) → Halves (wide_at l after)
unfolding wide_at
wide_halves None after = covered after
  where
    covered : (l : Option Register) → Halves (covered_by l)
    covered None = unfold covered_by in tt
    covered (Some r) = unfold covered_by in tt
wide_halves (Some r) after = choose_either Halves (is_wide r) (Whole r) NotAllowed tt tt

access_halves : (offset width : ℕ) → Halves (access offset width)
unfolding access
access_halves offset width =
    choose_either Halves (eqb width 4 && eqb (offset % 4) 0 && leb (offset + 4) 0x2000) _ _
    (narrow_halves (register_at offset) (register_at (offset - 4)))
    (choose_either Halves (eqb width 8 && eqb (offset % 8) 0 && leb (offset + 8) 0x2000) _ _
    (wide_halves (register_at offset) (register_at (offset + 4))) tt)

-- of such registers only BASE_ADDR means something to the ring, whatever its value
upper_event : (r : Register) (v v' : ℕ) → is_wide r ≡ true → store_event r v' ≡ store_event r v
unfolding is_wide ring_wide store_event ring_event
upper_event Magic v v' e = refl
upper_event TestReg v v' e = refl
upper_event TestReg64 v v' e = refl
upper_event Control v v' e = not_both (sym e)
upper_event PortPhysCount v v' e = refl
upper_event PortPhysLinkStatus v v' e = refl
upper_event PortPhysEnable v v' e = refl
upper_event SwitchId v v' e = refl
upper_event (OfRing n BaseAddr) v v' e = refl
upper_event (OfRing n Size) v v' e = not_both (sym e)
upper_event (OfRing n Head) v v' e = not_both (sym e)
upper_event (OfRing n Tail) v v' e = refl
upper_event (OfRing n Ctrl) v v' e = not_both (sym e)
upper_event (OfRing n Credits) v v' e = not_both (sym e)

write_to_does : (d : Registers) (a : Access) (v : ℕ) → Halves a → (write_to d a v).refusal ≡ 0 → Does d (write_to d a v) (write_event a v)
unfolding write_to write_event sets
write_to_does d NotAllowed v h e = absurd (omega arith)
write_to_does d Reserved v h e = plain d _ refl refl refl
write_to_does d (Whole r) v h e = store_does d r v e
write_to_does d (Lower r) v h e = latch_does d r v
write_to_does d (Upper r) v h e = rw (upper_event r (joined d r v) v h) (store_does d r (joined d r v) e)

-- AN ACCEPTED WRITE DOES WHAT ITS EVENT SAYS
pub write_does : (d : Registers) (offset width v : ℕ) → (write d offset width v).refusal ≡ 0
    → Does d (write d offset width v) (write_event (access offset width) (taken width v))
unfolding write unless_refused sets
write_does d offset width v e =
    let w = write_to d (access offset width) (taken width v) in
    by_eq w.refusal 0
    (λ z p. rw p (write_to_does d (access offset width) (taken width v) (access_halves offset width) z))
    (λ ne p. absurd (ne (rw p at e)))
