use Rattle.rules.specs.Bytes.{swapped}
use Rattle.std.proofs.Common.{◌≡◌, ◌<◌, ◌+◌, ◌-◌, ◌*◌, ◌^◌}
use Rattle.wire.proofs.turned.Given as goal

-- what is still to be turned, behind what is turned already, is always the whole number turned
abbrev pub invariant-loop-done : goal.invariant-loop-done
invariant-loop-done l = record {
  fits : l.turned < 256 ^ l._done;
  whole : swapped l.n l.v ≡ l.turned * 256 ^ (l.n - l._done) + swapped (l.n - l._done) l.rest;
}
