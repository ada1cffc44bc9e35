-- The numbers that several rules share, each named once. The code's are in src/lib.rt.
use Rattle.std.specs.Prelude.{ℕ, ◌*◌}

-- ports of a device; a group has as many members at most
abbrev pub max_ports : ℕ
max_ports = 62

abbrev pub max_credits : ℕ
max_credits = 65536

-- bytes of a payload
abbrev pub max_payload : ℕ
max_payload = 4096

-- an output is "nine 16-bit numbers", and a list has so many for each port (request 2026-03: 558)
abbrev pub output_numbers : ℕ
output_numbers = 9

abbrev pub list_numbers : ℕ
list_numbers = output_numbers * max_ports

-- entries that a table has places for
abbrev pub max_flows : ℕ
max_flows = 256

abbrev pub max_groups : ℕ
max_groups = 128

-- the types of fields are those below this
abbrev pub field_types : ℕ
field_types = 44
