-- "Registers": the map of 0x0000 to 0x1fff, what an access reaches, reads, writes, latches (document 01: holds) and resets.
use Rattle.std.specs.Prelude.{ℕ, ◌+◌, ◌-◌, ◌*◌, ◌/◌, ◌%◌, ◌^◌, min, Bool, true, false, ◌&&◌, Option, Some, None, List, [], ◌∷◌, leb, eqb}
use Rattle.rules.specs.Choose.{choose}
use Rattle.rules.specs.Bytes.{bit}
use Rattle.rules.specs.Limits.{max_ports}
use Rattle.rules.specs.Version.{current}
use Rattle.rules.specs.Ring.{zero_ring, Stored, ring_wide, ring_value, ring_store, ring_latch, ring_latched}
use Rattle.rules.specs.declared.Terms.{Terms}
use Rattle.rules.specs.declared.Ring.{Ring}
use Rattle.rules.specs.declared.Registers.{Registers}
use Rattle.rules.specs.declared.Register.{Register}
use Rattle.rules.specs.declared.Register.TheVariants.{Magic, TestReg, TestReg64, Control, PortPhysCount, PortPhysLinkStatus, PortPhysEnable, SwitchId, OfRing}
use Rattle.rules.specs.declared.RingRegister.TheVariants.{BaseAddr, Size, Head, Tail, Ctrl, Credits}
use Rattle.rules.specs.declared.Access.{Access}
use Rattle.rules.specs.declared.Access.TheVariants.{NotAllowed, Reserved, Whole, Lower, Upper}

-- The list of registers: where each starts. 0x0000 to 0x000f are twice 8 bytes that read the same. Ring 0 is the command ring.
unfoldable pub register_at : ℕ → Option Register
register_at offset =
    choose (eqb offset 0x0000) (Some Magic)
    (choose (eqb offset 0x0008) (Some Magic)
    (choose (eqb offset 0x0010) (Some TestReg)
    (choose (eqb offset 0x0018) (Some TestReg64)
    (choose (eqb offset 0x0300) (Some Control)
    (choose (eqb offset 0x0304) (Some PortPhysCount)
    (choose (eqb offset 0x0310) (Some PortPhysLinkStatus)
    (choose (eqb offset 0x0318) (Some PortPhysEnable)
    (choose (eqb offset 0x0320) (Some SwitchId)
    (choose (eqb offset 0x1000) (Some (OfRing 0 BaseAddr))
    (choose (eqb offset 0x1008) (Some (OfRing 0 Size))
    (choose (eqb offset 0x100c) (Some (OfRing 0 Head))
    (choose (eqb offset 0x1010) (Some (OfRing 0 Tail))
    (choose (eqb offset 0x1014) (Some (OfRing 0 Ctrl))
    (choose (eqb offset 0x1018) (Some (OfRing 0 Credits))
    None))))))))))))))

-- the list's "(4)" and "(8)": whether a register has 8 bytes
unfoldable pub is_wide : Register → Bool
is_wide Magic = true
is_wide TestReg = false
is_wide TestReg64 = true
is_wide Control = false
is_wide PortPhysCount = false
is_wide PortPhysLinkStatus = true
is_wide PortPhysEnable = true
is_wide SwitchId = true
is_wide (OfRing n r) = ring_wide r

-- 4 bytes: a register that starts there, whole or its lower half; or the upper half of one that starts 4 bytes before
unfoldable pub upper_of : Option Register → Access
upper_of None = Reserved
upper_of (Some r) = choose (is_wide r) (Upper r) Reserved

unfoldable pub narrow_at : Option Register → Option Register → Access
narrow_at None before = upper_of before
narrow_at (Some r) before = choose (is_wide r) (Lower r) (Whole r)

-- 8 bytes: a register of 8 that starts there. One "that covers a 4-byte register" of the list is not allowed
unfoldable pub covered_by : Option Register → Access
covered_by None = Reserved
covered_by (Some r) = NotAllowed

unfoldable pub wide_at : Option Register → Option Register → Access
wide_at None after = covered_by after
wide_at (Some r) after = choose (is_wide r) (Whole r) NotAllowed

-- 4 bytes "at a multiple of 4" or 8 "at a multiple of 8", inside 0x0000 to 0x1fff; answer 1 for "any other shape"
unfoldable pub access : ℕ → ℕ → Access
access offset width =
    choose (eqb width 4 && eqb (offset % 4) 0 && leb (offset + 4) 0x2000) (narrow_at (register_at offset) (register_at (offset - 4)))
    (choose (eqb width 8 && eqb (offset % 8) 0 && leb (offset + 8) 0x2000) (wide_at (register_at offset) (register_at (offset + 4)))
    NotAllowed)

unfoldable pub access_refusal : Access → ℕ
access_refusal NotAllowed = 1
access_refusal Reserved = 0
access_refusal (Whole r) = 0
access_refusal (Lower r) = 0
access_refusal (Upper r) = 0

-- ---- Rings

-- The ring of a number. There is one, the command ring, whatever the number
abbrev pub ring_at : Registers → ℕ → Ring
ring_at d n = d.ring

unfoldable pub with_ring : Registers → ℕ → Ring → Registers
with_ring d n r =
    record { switch_id = d.switch_id; links = d.links; enable = d.enable; test_reg64 = d.test_reg64; ports = d.ports; enable_latch = d.enable_latch; test_latch = d.test_latch; test_reg = d.test_reg; ring = r }

-- ring 0: the one way to it
abbrev pub command_ring : Registers → Ring
command_ring d = ring_at d 0

abbrev pub with_command_ring : Registers → Ring → Registers
with_command_ring d r = with_ring d 0 r

-- the vector of a ring, raised or not. The command ring's is 0
unfoldable pub raised : ℕ → Bool → List ℕ
raised n raises = choose raises (0 ∷ []) []

-- ---- Reads

-- What a register reads, whole. Magic is 0xDEADBABE twice; the test registers read "twice the last value written"; CONTROL reads 0
unfoldable pub value_of : Registers → Register → ℕ
value_of d Magic = 0xDEADBABEDEADBABE
value_of d TestReg = (d.test_reg + d.test_reg) % 2 ^ 32
value_of d TestReg64 = (d.test_reg64 + d.test_reg64) % 2 ^ 64
value_of d Control = 0
value_of d PortPhysCount = d.ports
value_of d PortPhysLinkStatus = d.links
value_of d PortPhysEnable = d.enable
value_of d SwitchId = d.switch_id
value_of d (OfRing n r) = ring_value (ring_at d n) r

-- what is reserved reads 0, and so does a refused read; "a half read shows half"
unfoldable pub read_value : Registers → Access → ℕ
read_value d NotAllowed = 0
read_value d Reserved = 0
read_value d (Whole r) = value_of d r
read_value d (Lower r) = value_of d r % 2 ^ 32
read_value d (Upper r) = value_of d r / 2 ^ 32

-- bit p is port p's, and bits outside 1 to the port count "are dropped". (A port count above 63 drops bit 0 alone.)
unfoldable pub port_bits : ℕ → ℕ → ℕ
port_bits ports v = v % 2 ^ (min ports 63 + 1) / 2 * 2

-- Registers with some of them set anew
unfoldable pub with_links : Registers → ℕ → Registers
with_links d v =
    record { switch_id = d.switch_id; links = v; enable = d.enable; test_reg64 = d.test_reg64; ports = d.ports; enable_latch = d.enable_latch; test_latch = d.test_latch; test_reg = d.test_reg; ring = d.ring }

unfoldable pub with_test : Registers → ℕ → Registers
with_test d v =
    record { switch_id = d.switch_id; links = d.links; enable = d.enable; test_reg64 = d.test_reg64; ports = d.ports; enable_latch = d.enable_latch; test_latch = d.test_latch; test_reg = v; ring = d.ring }

unfoldable pub with_test64 : Registers → ℕ → ℕ → Registers
with_test64 d v latch =
    record { switch_id = d.switch_id; links = d.links; enable = d.enable; test_reg64 = v; ports = d.ports; enable_latch = d.enable_latch; test_latch = latch; test_reg = d.test_reg; ring = d.ring }

unfoldable pub with_enable : Registers → ℕ → ℕ → Registers
with_enable d v latch =
    record { switch_id = d.switch_id; links = d.links; enable = v; test_reg64 = d.test_reg64; ports = d.ports; enable_latch = latch; test_latch = d.test_latch; test_reg = d.test_reg; ring = d.ring }

-- a "fresh device": its port count and switch ID, all links down, all else 0
unfoldable pub fresh_registers : ℕ → ℕ → Registers
fresh_registers ports id =
    record { switch_id = id; links = 0; enable = 0; test_reg64 = 0; ports = ports; enable_latch = 0; test_latch = 0; test_reg = 0; ring = zero_ring }

-- a "device reset": fresh, but for "port count, switch ID and links"
unfoldable pub reset_registers : Registers → Registers
reset_registers d = with_links (fresh_registers d.ports d.switch_id) d.links

-- What a write comes to: its refusal and, used only at 0, the registers after it, the vectors that it raises, and whether it resets
-- the device and so empties the tables
pub record Written : Type 0 where
  pub refusal : ℕ
  pub registers : Registers
  pub vectors : List ℕ
  pub resets : Bool

unfoldable pub sets : ℕ → Registers → Written
sets refusal d = record { refusal = refusal; registers = d; vectors = []; resets = false }

-- a ring's part of it
unfoldable pub in_ring : Registers → ℕ → Stored → Written
in_ring d n w =
    record { refusal = w.refusal; registers = with_ring d n w.ring; vectors = raised n w.raises; resets = false }

-- A write of a whole register. One of Magic or of a "read-only" place does nothing; bit 0 of CONTROL resets the device; an accepted
-- write of a whole register of 8 bytes "clears the hold"
unfoldable pub store : Registers → Register → ℕ → Written
store d Magic v = sets 0 d
store d TestReg v = sets 0 (with_test d v)
store d TestReg64 v = sets 0 (with_test64 d v 0)
store d Control v =
    choose (eqb (v % 2) 1) (record { refusal = 0; registers = reset_registers d; vectors = []; resets = true }) (sets 0 d)
store d PortPhysCount v = sets 0 d
store d PortPhysLinkStatus v = sets 0 d
store d PortPhysEnable v = sets 0 (with_enable d (port_bits d.ports v) 0)
store d SwitchId v = sets 0 d
store d (OfRing n r) v = in_ring d n (ring_store (ring_at d n) r v)

-- the latch ("hold") of a register: each writable one of 8 bytes has "its own"
unfoldable pub latch_of : Registers → Register → ℕ
latch_of d Magic = 0
latch_of d TestReg = 0
latch_of d TestReg64 = d.test_latch
latch_of d Control = 0
latch_of d PortPhysCount = 0
latch_of d PortPhysLinkStatus = 0
latch_of d PortPhysEnable = d.enable_latch
latch_of d SwitchId = 0
latch_of d (OfRing n r) = ring_latch (ring_at d n) r

-- a write of the lower half "only sets the hold"
unfoldable pub latch_effect : Registers → Register → ℕ → Registers
latch_effect d Magic v = d
latch_effect d TestReg v = d
latch_effect d TestReg64 v = with_test64 d d.test_reg64 v
latch_effect d Control v = d
latch_effect d PortPhysCount v = d
latch_effect d PortPhysLinkStatus v = d
latch_effect d PortPhysEnable v = with_enable d d.enable v
latch_effect d SwitchId v = d
latch_effect d (OfRing n r) v = with_ring d n (ring_latched (ring_at d n) r v)

-- of the number handed in a 4-byte write takes "the low 32 bits"
unfoldable pub taken : ℕ → ℕ → ℕ
taken width v = choose (eqb width 4) (v % 2 ^ 32) v

-- a write of the upper half writes the register "from both"
unfoldable pub joined : Registers → Register → ℕ → ℕ
joined d r v = latch_of d r + 2 ^ 32 * v

-- a write of a taken number to what it reaches; one of a "reserved" place does nothing
unfoldable pub write_to : Registers → Access → ℕ → Written
write_to d NotAllowed v = sets 1 d
write_to d Reserved v = sets 0 d
write_to d (Whole r) v = store d r v
write_to d (Lower r) v = sets 0 (latch_effect d r v)
write_to d (Upper r) v = store d r (joined d r v)

-- refused, it changes nothing
unfoldable pub unless_refused : Registers → Written → Written
unless_refused d w = choose (eqb w.refusal 0) w (sets w.refusal d)

-- a register write, and a register read
unfoldable pub write : Registers → ℕ → ℕ → ℕ → Written
write d offset width v = unless_refused d (write_to d (access offset width) (taken width v))

unfoldable pub read_refusal : ℕ → ℕ → ℕ
read_refusal offset width = access_refusal (access offset width)

unfoldable pub read : Registers → ℕ → ℕ → ℕ
read d offset width = read_value d (access offset width)

-- ---- Ports

-- 1 to 62
unfoldable pub port_count_allowed : ℕ → Bool
port_count_allowed ports = leb 1 ports && leb ports max_ports

unfoldable pub port_allowed : Registers → ℕ → Bool
port_allowed d port = port_count_allowed d.ports && leb 1 port && leb port d.ports

-- the owner sets a port's link "up or down"
unfoldable pub link_effect : ℕ → ℕ → Bool → ℕ
link_effect links port up = choose (bit port links) (choose up links (links - 2 ^ port)) (choose up (links + 2 ^ port) links)

-- a port whose link is up and that is enabled
unfoldable pub is_up : Registers → ℕ → Bool
is_up d port = bit port d.links && bit port d.enable

-- ---- Terms

-- the terms of a device with so many ports: it carries payloads out under these, and writes them into its journal's header
abbrev pub current_terms : ℕ → Terms
current_terms ports = record { ports = ports; version = current }

abbrev pub terms_of : Registers → Terms
terms_of d = current_terms d.ports
