-- The members are there, or the test of the ranges fails (`lows_none`); with them that test is the rule's (`told`).
use Rattle.std.proofs.Common.{◌≡◌, ℕ, List, Some, refl, sym, ap, ◌∙◌}
use Rattle.std.proofs.lemmas.Result.{err_from_is_err_and}
use mathlib.Core.Bool.{Bool, false, ◌&&◌}
use Rattle.rules.proofs.Cases.{by_test}
use Rattle.rules.specs.Decode.{header_of, need, carried, members_of, group_allowed, group_in}
use Rattle.std.specs.Prelude.{Ok}
use Rattle.command.specs.Answer.{lows_of}
use Rattle.command.proofs.Counts.{right_count, lows_some, lows_none, taken_some, taken_none}
use Rattle.command.proofs.group.group_in.Goals as goal
use Rattle.command.proofs.group.group_in.Goals.{In_ok-members, After-group_allowed}

and_false : (b : Bool) → b && false ≡ false
and_false b = by_test b (λ p. rw p) (λ p. rw p)

pub returns-in_err-members : goal.returns-in_err-members
unfolding group_in need
returns-in_err-members c = λ make.
    let i = c.args.info.now in
    let t = taken_none _ _ _ _ c.ok_or.ensures.value c.in_err-members.was in
    let p = err_from_is_err_and c.from_residual.result c.from_residual.ensures.1 in
    let n = lows_none (header_of i.terms) i.bytes c.word-id.result i.terms refl (sym c.members_of.ensures ∙ t.0) in
    rw (p.1, p.2, t.1, ← c.word-id.ensures, n) (rw (and_false _))

-- the members are listed
listed : (c : In_ok-members)
    → let i = c.args.info.now in
    lows_of (header_of i.terms) i.bytes c.word-id.result ≡ Some c.in_ok-members.members
listed c = sym c.members_of.ensures ∙ taken_some _ _ _ _ c.ok_or.ensures.value c.in_ok-members.was

-- the test of the ranges is the rule's
told : (c : After-group_allowed)
    → let i = c.args.info.now in
    c.group_allowed.result ≡ group_allowed i.terms i.bytes c.word-id.result (members_of (header_of i.terms) i.bytes c.word-id.result)
told c =
    let i = c.args.info.now in
    c.group_allowed.ensures _ (lows_some (header_of i.terms) i.bytes c.word-id.result _ (sym c.members_of.ensures ∙ taken_some _ _ _ _ c.ok_or.ensures.value c.in_ok-members.was)).1

pub returns-then-not-right_for-group_allowed : goal.returns-then-not-right_for-group_allowed
unfolding group_in need
returns-then-not-right_for-group_allowed c = λ make.
    simp (
      ← c.word-id.ensures,
      ← c.group_user.ensures,
      ← c.right_for.ensures,
      ← told (goal.at.returns-then-not-right_for-group_allowed c).After-group_allowed,
      c.if-not-right_for-group_allowed.true,
    )

pub group_of-requires : goal.group_of-requires
group_of-requires c = λ a b.
    let i = c.args.info.now in
    right_count _ _ ((lows_some (header_of i.terms) i.bytes c.word-id.result _ (listed (goal.at.group_of-requires c).In_ok-members)).1 a b)

pub returns : goal.returns
unfolding group_in need carried
returns c = λ make.
    let i = c.args.info.now in
    simp (
      ← c.word-id.ensures,
      ← c.group_user.ensures,
      ← c.right_for.ensures,
      ← told (goal.at.returns c).After-group_allowed,
      c.if-not-right_for-group_allowed.false,
      ← c.group_of.ensures,
    )
    (ap (λ (l : List ℕ). record { what = Ok (make c.group_of.result); members = l }) (lows_some (header_of i.terms) i.bytes c.word-id.result _ (listed (goal.at.returns c).In_ok-members)).0)
