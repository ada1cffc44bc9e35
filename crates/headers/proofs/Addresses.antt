-- A frame's destination address in two words, and all that is read of a frame, on plain values.
-- Assumes nothing.
use Prim.Native.Nat.{ℕ, ◌+◌, ◌*◌, ◌/◌, ◌^◌}
use mathlib.Core.Bool.{Bool, true, false}
use mathlib.Core.Path.{◌≡◌, refl, ap, ◌∙◌}
use mathlib.Core.List.{List}
use native.Mathlib.Omega.{arith}
use native.Mathlib.Nat.{add-zero, mul_assoc}
use lib.Dec.{leb}
use lib.ListN.{length}
use lib.Pow.{shl-shr}
use Rattle.rules.specs.Choose.{choose}
use Rattle.rules.specs.Bytes.{le_at, swap16, swapped}
use Rattle.rules.specs.Address.{is_ipv6, address_bytes, address_bits, address_in}
use Rattle.rules.specs.Frame.{is_tagged, frame_mac, frame_vlan, frame_type, after_type, is_routable, frame_address, headers_of}
use Rattle.deciding.specs.Way.{headers_in}
use Rattle.deciding.specs.declared.Headers.{Headers}
use Rattle.headers.specs.Address.{address_at}

module _ (f : List ℕ) (ethertype at : ℕ) where
  pub in_ipv6 : (high low : ℕ) → is_ipv6 ethertype ≡ true → high * 2 ^ 64 + low ≡ swapped 16 (le_at 16 f (at + 24))
      → address_in (address_bits ethertype) high low ≡ address_at f ethertype at
  unfolding address_in address_bits address_bytes address_at
  in_ipv6 high low p e = let z : (high * 2 ^ 64 + low) / 1 ≡ high * 2 ^ 64 + low = omega arith in rw p (z ∙ e)

  pub in_ipv4 : (word : ℕ) → is_ipv6 ethertype ≡ false → word ≡ swapped 4 (le_at 4 f (at + 16))
      → address_in (address_bits ethertype) (word * 4294967296) 0 ≡ address_at f ethertype at
  unfolding address_in address_bits address_bytes address_at
  in_ipv4 word p e =
      let z : word * 4294967296 * 2 ^ 64 + 0 ≡ word * 2 ^ 96 = rw (add-zero, mul_assoc) refl in
      rw p (ap (λ (x : ℕ). x / 2 ^ 96) z ∙ (shl-shr word 96 ∙ e))

-- what follows the EtherType begins two bytes behind it
after_place : (tagged : Bool) → choose tagged 16 12 + 2 ≡ choose tagged 18 14
after_place true = refl
after_place false = refl

pub headers_are : (f : List ℕ) (h : Headers) (place : ℕ) → place ≡ choose (is_tagged f) 16 12 → h.mac ≡ le_at 6 f 0 → h.vlan ≡ frame_vlan f
    → h.ethertype ≡ swap16 (le_at 2 f place) → h.routable ≡ leb (place + 2 + choose (is_ipv6 h.ethertype) 40 20) (length f)
    → address_in (address_bits h.ethertype) h.address_high h.address_low ≡ address_at f h.ethertype (place + 2)
    → headers_in h ≡ headers_of f
unfolding headers_in headers_of frame_mac frame_type after_type is_routable frame_address address_at
headers_are f h place p m v t r a =
    let q : place + 2 ≡ choose (is_tagged f) 18 14 = ap (λ (x : ℕ). x + 2) p ∙ after_place (is_tagged f) in
    let t' : h.ethertype ≡ swap16 (le_at 2 f (choose (is_tagged f) 16 12)) = rw p at t in
    rw (m, v, r, a) (rw (q, t') refl)
