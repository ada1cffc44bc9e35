-- Request 2026-03: addresses and their prefixes. An address is a number of w bits, 32 of IPv4 and 128 of IPv6; what is said of prefixes is
-- said of any width.
use Rattle.std.specs.Prelude.{ℕ, zero, suc, ◌+◌, ◌-◌, ◌*◌, ◌/◌, ◌%◌, ◌^◌, Bool, not, ◌||◌, ltb, eqb}
use Rattle.std.specs.Int.Bits.{bit_and}
use Rattle.rules.specs.Choose.{choose}

-- ---- Prefixes, over any width

-- the mask whose first p of w bits are ones; one of them all where p is more
unfoldable pub prefix_mask : ℕ → ℕ → ℕ
prefix_mask w p = 2 ^ w - 2 ^ (w - p)

-- "both sides compared under the mask"
unfoldable pub agree : ℕ → ℕ → ℕ → ℕ → Bool
agree w p a b = eqb (bit_and a (prefix_mask w p)) (bit_and b (prefix_mask w p))

-- of a mask, the first length from p on, of n, whose mask it is; p + n where there is none
unfoldable pub length_from : ℕ → ℕ → ℕ → ℕ → ℕ
length_from zero w mask p = p
length_from (suc n) w mask p = choose (eqb mask (prefix_mask w p)) p (length_from n w mask (suc p))

-- The length of a prefix mask, from 0 to w: "only prefix masks" have one, and every other mask has w + 1
unfoldable pub prefix_length : ℕ → ℕ → ℕ
prefix_length w mask = length_from (suc w) w mask 0

-- ---- The two families

-- ETHERTYPE is "0x0800 or 0x86DD"
unfoldable pub is_ipv6 : ℕ → Bool
is_ipv6 ethertype = eqb ethertype 0x86DD

unfoldable pub is_routed_type : ℕ → Bool
is_routed_type ethertype = eqb ethertype 0x0800 || is_ipv6 ethertype

-- how many bytes an address has
unfoldable pub address_bytes : ℕ → ℕ
address_bytes ethertype = choose (is_ipv6 ethertype) 16 4

unfoldable pub address_bits : ℕ → ℕ
address_bits ethertype = 8 * address_bytes ethertype

-- An address of w bits stands in the upper bits of two words of 64
unfoldable pub aligned_high : ℕ → ℕ → ℕ
aligned_high w a = a * 2 ^ (128 - w) / 2 ^ 64

unfoldable pub aligned_low : ℕ → ℕ → ℕ
aligned_low w a = a * 2 ^ (128 - w) % 2 ^ 64

-- the address of w bits in two words
unfoldable pub address_in : ℕ → ℕ → ℕ → ℕ
address_in w high low = (high * 2 ^ 64 + low) / 2 ^ (128 - w)

-- "unicast destinations": asked of the first byte, as it was given and not under the mask
unfoldable pub is_unicast : ℕ → ℕ → Bool
is_unicast ethertype high = choose (is_ipv6 ethertype) (not (eqb (high / 2 ^ 56) 0xFF)) (ltb (high / 2 ^ 56) 224)
