use mathlib.Core.Path.{◌≡◌, sym, ◌∙◌}
use lib.ListN.{length}
use native.Mathlib.Omega.{arith}
use Rattle.std.proofs.lemmas.Bool.{eqb-true, eqb-false}
use Rattle.text.proofs.Laws.{hex_number, short_number, decimal_number, no_number}
use Rattle.text.proofs.number.Goals as goal
use Rattle.text.proofs.number.Goals.{After-strip_prefix, in_default-via-in-Some+else-not-is_empty, in_default-via-in_default}

pub returns-then-is_empty : goal.returns-then-is_empty
returns-then-is_empty c = no_number c.args.s.now (eqb-true _ _ (sym c.if-is_empty.ensures))

there : (c : After-strip_prefix) → length c.args.s.now ≡ 0 → ⊥
there c = eqb-false _ _ (sym c.if-is_empty.ensures)

pub returns-in-Some : goal.returns-in-Some
returns-in-Some c =
    let r = c.in-Some.ensures.cases in
    c.digits.ensures ∙ hex_number c.args.s.now c.in-Some.rest.now (there (goal.at.returns-in-Some c).After-strip_prefix) (eqb-false _ _ (sym c.if-not-is_empty.ensures)) r.0 r.1 r.2

pub returns-in_default : goal.returns-in_default
returns-in_default c =
    let s = c.args.s.now in
    let n = there (goal.at.returns-in_default c).After-strip_prefix in
    elim c.in_default.branch [
      | in_default-via-in-Some+else-not-is_empty w ↦ (
          let e : length w.in-Some.rest.now ≡ 0 = eqb-true _ _ (sym w.if-not-is_empty.ensures) in
          c.digits-in_default.ensures ∙ short_number s n (omega (arith, e, w.in-Some.ensures.cases.2))
          )
      | in_default-via-in_default w ↦ c.digits-in_default.ensures ∙ decimal_number s n w.in_default.ensures.cases
    ]
