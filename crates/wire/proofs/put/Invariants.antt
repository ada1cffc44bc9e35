use Rattle.rules.specs.Bytes.{bytes_of, splice}
use Rattle.std.proofs.Common.{◌≡◌, ◌≤◌, ◌-◌, ◌+◌, length}
use Rattle.wire.proofs.put.Given as goal

-- what is still to be written, put over what stands there now, is always the whole number put over the old slice
abbrev pub invariant-loop-i : goal.invariant-loop-i
invariant-loop-i l = record {
  long : length l.s ≡ length l.initial.s;
  room : l.at + l.n ≤ length l.s;
  whole : splice l.i (bytes_of (l.at + l.n - l.i) l.rest) l.s ≡ splice l.at (bytes_of l.n l.v) l.initial.s;
}
