-- What a flow of table 30 compares, from the words that its fields are read into: two of an IPv6 field, one of an IPv4 field.
-- Assumes nothing.
use Prim.Native.Nat.{ℕ, ◌+◌, ◌*◌, ◌<◌, ◌^◌}
use mathlib.Core.Bool.{Bool, true, false}
use mathlib.Core.List.{List}
use mathlib.Core.Path.{◌≡◌}
use native.Mathlib.Omega.{arith}
use Rattle.rules.specs.Bytes.{swapped}
use Rattle.rules.specs.Address.{prefix_length, is_ipv6, address_bytes, address_bits, aligned_high, aligned_low}
use Rattle.rules.specs.Fields.{given, value}
use Rattle.rules.specs.Decode.{address_field, mask_field, address_of, route_of}
use Rattle.rules.specs.declared.Match.TheVariants.{UnicastRouting}

-- the two words of an address of 128 bits
high_of_wide : (a high low : ℕ) → high * 2 ^ 64 + low ≡ a → low < 2 ^ 64 → aligned_high 128 a ≡ high
unfolding aligned_high
high_of_wide a high low e h = omega arith

low_of_wide : (a high low : ℕ) → high * 2 ^ 64 + low ≡ a → low < 2 ^ 64 → aligned_low 128 a ≡ low
unfolding aligned_low
low_of_wide a high low e h = omega arith

-- an address of 32 bits stands at the top of the upper one
high_of_narrow : (a : ℕ) → aligned_high 32 a ≡ a * 2 ^ 32
unfolding aligned_high
high_of_narrow a = omega arith

low_of_narrow : (a : ℕ) → aligned_low 32 a ≡ 0
unfolding aligned_low
low_of_narrow a = omega arith

module _ (h : ℕ) (s : List ℕ) (ethertype : ℕ) (has : Bool) (id : ℕ) (hs : has ≡ given h s 10) (is : id ≡ value h s 10) where
  pub route_six : (high low mask_high mask_low length : ℕ) → is_ipv6 ethertype ≡ true
      → high * 2 ^ 64 + low ≡ swapped 16 (value h s 38) → low < 2 ^ 64
      → mask_high * 2 ^ 64 + mask_low ≡ swapped 16 (value h s 39) → length ≡ prefix_length 128 (mask_high * 2 ^ 64 + mask_low)
      → UnicastRouting ethertype high low length has id ≡ route_of h s ethertype
  unfolding route_of address_of address_field mask_field address_bytes address_bits
  route_six high low mask_high mask_low length i a l m p =
      let x = high_of_wide (swapped 16 (value h s 38)) high low a l in
      let y = low_of_wide (swapped 16 (value h s 38)) high low a l in
      simp (i, x, y, ← m, ← p, ← hs, ← is)

  pub route_four : (address mask length : ℕ) → is_ipv6 ethertype ≡ false
      → address ≡ swapped 4 (value h s 36) → mask ≡ swapped 4 (value h s 37) → length ≡ prefix_length 32 mask
      → UnicastRouting ethertype (address * 2 ^ 32) 0 length has id ≡ route_of h s ethertype
  unfolding route_of address_of address_field mask_field address_bytes address_bits
  route_four address mask length i a m p = simp (i, ← a, ← m, ← p, high_of_narrow, low_of_narrow, ← hs, ← is)
