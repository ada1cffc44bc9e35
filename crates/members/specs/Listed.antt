-- What is handed over of a member list.
use Rattle.std.specs.Prelude.{ℕ, List, Result, Ok, Err}
use Rattle.rules.specs.Choose.{choose}
use Rattle.rules.specs.Members.{Collected, members_right, pad}

-- the low bits of collected members at the front of 62 numbers: handed over as right for a GROUP_COUNT, or as not
unfoldable pub listed : ℕ → Collected → Result (List ℕ) (List ℕ)
listed count c = choose (members_right count c) (Ok (pad c.lows)) (Err (pad c.lows))
