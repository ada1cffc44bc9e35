use mathlib.Core.Bool.{false}
use mathlib.Core.Path.{◌≡◌, sym, ◌∙◌}
use Rattle.std.proofs.lemmas.Bool.{eq-eqb, ne_eqb}
use Rattle.hexadecimal.specs.Hex.{counted, is_dash}
use Rattle.hexadecimal.proofs.Digits.{dash_is, dash}
use Rattle.hexadecimal.proofs.count.Goals as goal
use Rattle.hexadecimal.proofs.count.Goals.{Else-eq, then-is_empty-via-then-is_empty, then-is_empty-via-else-is_empty+then-s-ne0, then-is_empty-via-else-is_empty+else-s-ne0+then-not-all_digits}

pub returns-then-eq : goal.returns-then-eq
returns-then-eq c = dash c.args.s.now _ c.as_slice.ensures c.if-eq.ensures

no_dash : (c : Else-eq) → is_dash c.args.s.now ≡ false
no_dash c = sym (dash_is c.args.s.now) ∙ rw c.as_slice.ensures at (sym c.if-eq.ensures)

pub returns-then-is_empty : goal.returns-then-is_empty
unfolding counted
returns-then-is_empty c =
    let d = no_dash (goal.at.returns-then-is_empty c).Else-eq in
    elim c.then-is_empty.branch [
      | then-is_empty-via-then-is_empty w ↦ simp (d, ← w.if-is_empty.ensures)
      | then-is_empty-via-else-is_empty+then-s-ne0 w ↦ simp (d, ← w.if-is_empty.ensures, ne_eqb _ _ w.if-s-ne0.true)
      | then-is_empty-via-else-is_empty+else-s-ne0+then-not-all_digits w ↦ simp (d, ← w.if-is_empty.ensures, eq-eqb _ _ w.if-s-ne0.false, ← w.if-not-all_digits.ensures)
    ]

pub returns : goal.returns
unfolding counted
returns c = simp (no_dash (goal.at.returns c).Else-eq, ← c.if-is_empty.ensures, eq-eqb _ _ c.if-s-ne0.false, ← c.if-not-all_digits.ensures)
