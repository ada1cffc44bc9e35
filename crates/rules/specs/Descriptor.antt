-- "Work: one slot": whether a ring has one to complete, its descriptor, and the descriptor's faults.
use Rattle.std.specs.Prelude.{ℕ, ◌+◌, ◌*◌, ◌%◌, not, ◌&&◌, List, ltb, leb, eqb}
use Rattle.rules.specs.Choose.{choose, refuse}
use Rattle.rules.specs.Limits.{max_credits, max_payload}
use Rattle.rules.specs.Bytes.{le_at, part, inside}
use Rattle.rules.specs.declared.Ring.{Ring}
use Rattle.rules.specs.declared.Status.{Status}
use Rattle.rules.specs.declared.Status.TheVariants.{Enxio, Einval, Emsgsize}
use Rattle.rules.specs.declared.Descriptor.{Descriptor}

-- where the descriptor at TAIL stands: 32 bytes each, and "a true sum"
unfoldable pub descriptor_at : Ring → ℕ
descriptor_at r = r.base_addr + 32 * r.tail

-- 3: nothing is posted; 4: the credits are full (or, in a state that no call makes, more); 5: the descriptor is not inside memory. Else
-- there is a slot to complete, and what the conditions after these give
unfoldable pub slot_refusal : Ring → List ℕ → ℕ → ℕ
slot_refusal r memory rest =
    refuse (eqb r.head r.tail) 3
    (refuse (leb max_credits r.credits) 4
    (refuse (not (inside (descriptor_at r) 32 memory)) 5 rest))

-- BUF_ADDR at 0, BUF_SIZE at 16, TLV_SIZE at 18. COOKIE at 8 and COMP_ERR at 30 are not read, so bit 15 "isn't looked at"
unfoldable pub descriptor : List ℕ → ℕ → Descriptor
descriptor memory at =
    record { buf_addr = le_at 8 memory at; buf_size = le_at 2 memory (at + 16); tlv_size = le_at 2 memory (at + 18) }

-- where COMP_ERR stands
unfoldable pub completion_at : Ring → ℕ
completion_at r = descriptor_at r + 30

-- What a descriptor hands over: the status of its first fault, or its payload
pub data Fetched : Type 0 where
  Faulty : Status → Fetched
  Payload : List ℕ → Fetched

-- "First fault": BUF_ADDR askew or BUF_SIZE bytes from it not inside; TLV_SIZE above BUF_SIZE; TLV_SIZE above 4,096
unfoldable pub fetch : List ℕ → Descriptor → Fetched
fetch memory d =
    choose (not (eqb (d.buf_addr % 8) 0 && inside d.buf_addr d.buf_size memory)) (Faulty Enxio)
    (choose (ltb d.buf_size d.tlv_size) (Faulty Einval)
    (choose (ltb max_payload d.tlv_size) (Faulty Emsgsize)
    (Payload (part d.tlv_size memory d.buf_addr))))
