use mathlib.Core.Bool.{◌||◌}
use mathlib.Core.Path.{◌≡◌}
use lib.ListN.{drop}
use Rattle.rules.specs.Members.{elem}
use Rattle.members.proofs.contains.Given as goal

-- what was found so far, or what is found from here on, is the answer
abbrev pub invariant-loop-other : goal.invariant-loop-other
invariant-loop-other l = (l.there || elem l.low (drop l.other-index l.other-items)) ≡ elem l.low l.other-items
