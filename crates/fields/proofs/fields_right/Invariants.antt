use Rattle.std.proofs.Common.{◌≡◌, ◌≤◌, ◌<◌, ℕ, true}
use Rattle.rules.specs.Limits.{field_types}
use Rattle.rules.specs.Fields.{field_right}
use Rattle.fields.proofs.fields_right.Given as goal

-- the fields behind those that are left are right
abbrev pub invariant-loop-t : goal.invariant-loop-t
invariant-loop-t l = (k : ℕ) → l.t ≤ k → k < field_types → field_right l.header l.s l.who k ≡ true
