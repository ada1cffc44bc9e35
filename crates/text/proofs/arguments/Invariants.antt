use mathlib.Core.Path.{◌≡◌}
use Prim.Native.Nat.{ℕ, ◌+◌, ◌-◌}
use lib.ListN.{length, take}
use mathlib.Core.List.{List, ◌++◌}
use Rattle.std.specs.Option.{option_map}
use Rattle.text.specs.Text.{numbers_from}
use Rattle.text.proofs.arguments.Given as goal

-- the numbers so far and those of what is left are those of all
abbrev pub invariant-loop-i : goal.invariant-loop-i
invariant-loop-i g l = record {
  all : numbers_from 1 g.row.N l.s ≡ option_map (λ (rest : List ℕ). take l.i l.number-items ++ rest) (numbers_from (l.i + 1) (g.row.N - l.i) l.s);
  size : length l.number-items ≡ g.row.N;
}
