use mathlib.Core.Path.{◌≡◌}
use Prim.Native.Nat.{◌<◌, ◌^◌}
use lib.ListN.{drop}
use Rattle.text.specs.Text.{all_digits, value_from}
use Rattle.text.proofs.digits.Given as goal

-- the digits so far are v, and the rest makes of v what the whole makes of 0
abbrev pub invariant-loop-b : goal.invariant-loop-b
invariant-loop-b l = record {
  digits : all_digits l.base l.s ≡ all_digits l.base (drop l.b-index l.s);
  value : value_from l.base 0 l.s ≡ value_from l.base l.v (drop l.b-index l.s);
  fits : l.v < 2 ^ 64;
}
