-- An index of a region: a number for each type below 44, which says where the one value of that type starts, or that there is none, or
-- more than one. A value starts at 8 or later, so 0 is left for none and 1 for more than one. h: as in the rules' Region.
use Rattle.std.specs.Prelude.{ℕ, ◌-◌, ◌≤◌, ◌<◌, ◌≡◌, List, get_or, set, ltb, eqb}
use Rattle.rules.specs.Choose.{choose}
use Rattle.rules.specs.Bytes.{le_at}
use Rattle.rules.specs.Region.{value_size, fits_width, lookup}
use Rattle.rules.specs.declared.Tlv.{Tlv}
use Rattle.rules.specs.declared.Found.{Found}
use Rattle.rules.specs.declared.Found.TheVariants.{Absent, At, Fault}

-- the length of the value that starts at a position, from the length field before it
unfoldable pub size_at : ℕ → List ℕ → ℕ → ℕ
size_at h s start = value_size h (le_at 2 s (start - 4))

-- what a number of an index says of its type, at a width
unfoldable pub found_at : ℕ → List ℕ → ℕ → ℕ → Found
found_at h s width place =
    choose (ltb place 8) (choose (eqb place 0) Absent Fault)
    (choose (fits_width width (size_at h s place)) (At place (size_at h s place)) Fault)

-- what one more value of its type makes of a number
unfoldable pub marked : ℕ → ℕ → ℕ
marked place start = choose (eqb place 0) start 1

-- what a TLV adds to an index
unfoldable pub noted : List ℕ → Tlv → List ℕ
noted places x = choose (ltb x.kind 44) (set places x.kind (marked (get_or places x.kind 0) x.start)) places

-- an index tells what its region holds of every type below 44; the length in front of each value counts the header
pub record Indexed (h : ℕ) (s : List ℕ) (places : List ℕ) : Type 0 where
  pub tells : (t width : ℕ) → t < 44 → found_at h s width (get_or places t 0) ≡ lookup h s t width
  pub counts : (t : ℕ) → t < 44 → 8 ≤ get_or places t 0 → h ≤ le_at 2 s (get_or places t 0 - 4)
