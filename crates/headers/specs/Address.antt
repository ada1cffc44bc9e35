-- The destination address of a header that begins at a position of a frame.
use Rattle.std.specs.Prelude.{ℕ, ◌+◌, List}
use Rattle.rules.specs.Choose.{choose}
use Rattle.rules.specs.Bytes.{le_at, swapped}
use Rattle.rules.specs.Address.{is_ipv6, address_bytes}

unfoldable pub address_at : List ℕ → ℕ → ℕ → ℕ
address_at f ethertype at = swapped (address_bytes ethertype) (le_at (address_bytes ethertype) f (at + choose (is_ipv6 ethertype) 24 16))
