-- The small part of a device as a host holds it: 20 words of 64 bits. Every list of words means a device, and all words 0 one without ports:
-- a field of 32 bits is its word's low half.
use Rattle.std.specs.Prelude.{ℕ, ◌%◌, List, get_or}
use Rattle.rules.specs.declared.Ring.{Ring}
use Rattle.rules.specs.declared.Registers.{Registers}
use Rattle.rules.specs.declared.Counts.{Counts}
use Rattle.rules.specs.declared.Firsts.{Firsts}
use Rattle.rules.specs.declared.Device.{Device}

abbrev pub word : List ℕ → ℕ → ℕ
word w i = get_or w i 0

abbrev pub half : List ℕ → ℕ → ℕ
half w i = word w i % 4294967296

abbrev pub ring_in : List ℕ → Ring
ring_in w =
    record { base_addr = word w 4; base_latch = half w 9; size = half w 10; head = half w 11; tail = half w 12; credits = half w 13 }

abbrev pub registers_in : List ℕ → Ring → Registers
registers_in w ring =
    record {
      switch_id = word w 0;
      links = word w 1;
      enable = word w 2;
      test_reg64 = word w 3;
      ports = half w 5;
      enable_latch = half w 6;
      test_latch = half w 7;
      test_reg = half w 8;
      ring = ring;
    }

abbrev pub counts_in : List ℕ → Counts
counts_in w = record { flows = word w 14; groups = word w 15 }

abbrev pub firsts_in : List ℕ → Firsts
firsts_in w = record { vlan = word w 16; termination = word w 17; routing = word w 18; bridging = word w 19 }

unfoldable pub device_in : List ℕ → Device
device_in w = record { registers = registers_in w (ring_in w); counts = counts_in w; firsts = firsts_in w }
