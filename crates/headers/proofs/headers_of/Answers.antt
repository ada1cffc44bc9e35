use native.Mathlib.Omega.{arith}
use Rattle.headers.proofs.Addresses.{headers_are}
use Rattle.headers.proofs.headers_of.Goals as goal

pub overflow_add-at : goal.overflow_add-at
overflow_add-at c = record { fits = omega (arith, c.type_at-at.ensures.1) }

pub address_of-address-requires : goal.address_of-address-requires
address_of-address-requires c = omega (arith, c.type_at-at.ensures.1)

pub overflow_add-at-2 : goal.overflow_add-at-2
overflow_add-at-2 c = record { fits = omega (arith, c.type_at-at.ensures.1) }

pub has_header-requires : goal.has_header-requires
has_header-requires c = omega (arith, c.type_at-at.ensures.1)

pub returns : goal.returns
returns c =
    headers_are _ _ c.type_at-at.result c.type_at-at.ensures.0 c.le48.ensures c.frame_vlan.ensures c.be16-ethertype.ensures c.has_header.ensures c.address_of-address.ensures
