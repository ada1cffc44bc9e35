-- "Registers": what a ring's six registers read, and what a write of each needs and does. The rules are over any ring, and serve
-- whichever holds one.
use Rattle.std.specs.Prelude.{ℕ, zero, suc, ◌+◌, ◌-◌, ◌%◌, ◌^◌, Bool, true, false, not, ◌&&◌, ◌||◌, ltb, leb, eqb}
use Rattle.rules.specs.Choose.{choose, refuse}
use Rattle.rules.specs.declared.Ring.{Ring}
use Rattle.rules.specs.declared.RingRegister.{RingRegister}
use Rattle.rules.specs.declared.RingRegister.TheVariants.{BaseAddr, Size, Head, Tail, Ctrl, Credits}

-- all zero: a fresh device's ring, and what bit 0 of CTRL leaves, BASE_ADDR's latch ("hold") too
unfoldable pub zero_ring : Ring
zero_ring = record { base_addr = 0; base_latch = 0; size = 0; head = 0; tail = 0; credits = 0 }

-- (to − from) modulo the size
unfoldable pub distance : ℕ → ℕ → ℕ → ℕ
distance size from to = (to % size + size - from % size) % size

-- "outstanding is": from TAIL to HEAD
unfoldable pub outstanding : Ring → ℕ
outstanding r = distance r.size r.tail r.head

-- "the advance is": from HEAD to the number written. So many slots an accepted write posts
unfoldable pub advance : Ring → ℕ → ℕ
advance r new = distance r.size r.head new

-- BASE_ADDR: "a multiple of 8"
unfoldable pub base_refusal : ℕ → ℕ
base_refusal v = refuse (not (eqb (v % 8) 0)) 2 0

-- an accepted write of BASE_ADDR or SIZE "sets HEAD and TAIL to 0", and keeps the credits; BASE_ADDR's latch is cleared by its own
unfoldable pub base_effect : Ring → ℕ → Ring
base_effect r v = record { base_addr = v; base_latch = 0; size = r.size; head = 0; tail = 0; credits = r.credits }

-- the number is 2 to the power k or a lower one, from 1 up
unfoldable pub power_up_to : ℕ → ℕ → Bool
power_up_to zero v = false
power_up_to (suc k) v = eqb v (2 ^ suc k) || power_up_to k v

-- SIZE: "a power of two", 2 to 65,536
unfoldable pub size_refusal : ℕ → ℕ
size_refusal v = refuse (not (power_up_to 16 v)) 2 0

unfoldable pub size_effect : Ring → ℕ → Ring
size_effect r v =
    record { base_addr = r.base_addr; base_latch = r.base_latch; size = v; head = 0; tail = 0; credits = r.credits }

-- HEAD: below SIZE, and then "outstanding + advance" is less than SIZE
unfoldable pub head_refusal : Ring → ℕ → ℕ
head_refusal r new = refuse (not (ltb new r.size && leb (outstanding r + advance r new) (r.size - 1))) 2 0

unfoldable pub head_effect : Ring → ℕ → Ring
head_effect r new =
    record { base_addr = r.base_addr; base_latch = r.base_latch; size = r.size; head = new; tail = r.tail; credits = r.credits }

-- CREDITS: not more than there are; these are "taken off", and the ring's vector is raised "when some remain"
unfoldable pub credits_refusal : Ring → ℕ → ℕ
credits_refusal r n = refuse (ltb r.credits n) 2 0

unfoldable pub credits_effect : Ring → ℕ → Ring
credits_effect r n =
    record { base_addr = r.base_addr; base_latch = r.base_latch; size = r.size; head = r.head; tail = r.tail; credits = r.credits - n }

unfoldable pub credits_raises : Ring → ℕ → Bool
credits_raises r n = ltb n r.credits

-- "CTRL bit 0"
unfoldable pub ctrl_effect : Ring → ℕ → Ring
ctrl_effect r v = choose (eqb (v % 2) 1) zero_ring r

-- ---- By register

-- the list's "(4)" and "(8)"
unfoldable pub ring_wide : RingRegister → Bool
ring_wide BaseAddr = true
ring_wide Size = false
ring_wide Head = false
ring_wide Tail = false
ring_wide Ctrl = false
ring_wide Credits = false

-- what it reads; CTRL reads 0
unfoldable pub ring_value : Ring → RingRegister → ℕ
ring_value r BaseAddr = r.base_addr
ring_value r Size = r.size
ring_value r Head = r.head
ring_value r Tail = r.tail
ring_value r Ctrl = 0
ring_value r Credits = r.credits

-- What a write of it comes to: the refusal and, used only at 0, the ring after it and whether the ring's vector is raised
pub record Stored : Type 0 where
  pub refusal : ℕ
  pub ring : Ring
  pub raises : Bool

abbrev pub stores : ℕ → Ring → Stored
stores refusal r = record { refusal = refusal; ring = r; raises = false }

-- TAIL is read-only: a write "does nothing"
unfoldable pub ring_store : Ring → RingRegister → ℕ → Stored
ring_store r BaseAddr v = stores (base_refusal v) (base_effect r v)
ring_store r Size v = stores (size_refusal v) (size_effect r v)
ring_store r Head v = stores (head_refusal r v) (head_effect r v)
ring_store r Tail v = stores 0 r
ring_store r Ctrl v = stores 0 (ctrl_effect r v)
ring_store r Credits v = record { refusal = credits_refusal r v; ring = credits_effect r v; raises = credits_raises r v }

-- BASE_ADDR alone has two halves that can be written, so it alone has a latch
unfoldable pub ring_latch : Ring → RingRegister → ℕ
ring_latch r BaseAddr = r.base_latch
ring_latch r Size = 0
ring_latch r Head = 0
ring_latch r Tail = 0
ring_latch r Ctrl = 0
ring_latch r Credits = 0

unfoldable pub base_latched : Ring → ℕ → Ring
base_latched r v =
    record { base_addr = r.base_addr; base_latch = v; size = r.size; head = r.head; tail = r.tail; credits = r.credits }

unfoldable pub ring_latched : Ring → RingRegister → ℕ → Ring
ring_latched r BaseAddr v = base_latched r v
ring_latched r Size v = r
ring_latched r Head v = r
ring_latched r Tail v = r
ring_latched r Ctrl v = r
ring_latched r Credits v = r

-- ---- A slot completed

-- the slot after one: "modulo SIZE". (A tail beyond the size, which no call makes, comes back to 0.)
unfoldable pub next_slot : ℕ → ℕ → ℕ
next_slot size i = choose (ltb (i + 1) size) (i + 1) 0

-- "TAIL advances by one", and CREDITS rises by one
unfoldable pub complete_effect : Ring → Ring
complete_effect r =
    record { base_addr = r.base_addr; base_latch = r.base_latch; size = r.size; head = r.head; tail = next_slot r.size r.tail; credits = r.credits + 1 }

-- the ring's vector is raised "when it was 0"
unfoldable pub complete_raises : Ring → Bool
complete_raises r = eqb r.credits 0
