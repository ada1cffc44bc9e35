-- What a journal's version number means: the rules by which its payloads are read. A test for each thing that a version brought.
use Rattle.std.specs.Prelude.{ℕ, Bool, ◌&&◌, leb}
use Rattle.rules.specs.Choose.{choose}

-- the version that the device obeys, and that its journals carry
abbrev pub current : ℕ
current = 3

-- the versions of journals that are read: the older ones "still", and the device's own
unfoldable pub known : ℕ → Bool
known v = leb 1 v && leb v current

-- Request 2026-02: from version 2 on a TLV's length counts "the 8 header bytes plus the value", before it the value alone
unfoldable pub header_counted : ℕ → Bool
header_counted v = leb 2 v

-- how many header bytes that are: the one number by which regions of any version are read and written
unfoldable pub header_bytes : ℕ → ℕ
header_bytes v = choose (header_counted v) 8 0

-- Request 2026-03: from version 3 on there are tables 20 and 30 and groups of type 2; "older ones have neither"
unfoldable pub routes : ℕ → Bool
routes v = leb 3 v
