use Rattle.wire.proofs.Numbers.{writing_goes_on, writing_ends, inside_true}
use Rattle.wire.specs.Put.{put}
use Rattle.rules.specs.Bytes.{bytes_of, splice}
use Rattle.std.proofs.Common.{◌≡◌, ◌≤◌, ◌+◌, ◌-◌, ℕ, refl, ap, sym, ◌∙◌, length, arith}
use lib.ListN.{length-set}
use Rattle.wire.proofs.put.Goals as goal

pub overflow_add-i-end : goal.overflow_add-i-end
overflow_add-i-end c =
    let a = c.args in
    let room = inside_true a.at a.n a.s.now (sym c.inside.ensures ∙ c.if-inside.true) in
    record { fits = omega (arith, room) }

pub loop-i-init : goal.loop-i-init
loop-i-init c =
    let a = c.args in
    let e : a.at + a.n - a.at ≡ a.n = omega arith in
    record {
      long = refl;
      room = inside_true _ _ _ (sym c.inside.ensures ∙ c.if-inside.true);
      whole = ap (λ (n : ℕ). splice a.at (bytes_of n a.v) a.s.now) e;
    }

pub loop-i-preserved : goal.loop-i-preserved
loop-i-preserved c =
    let l = c.loop-i in
    record {
      long = simp length-set l.invariant.long;
      room = simp length-set l.invariant.room;
      whole = writing_goes_on _ _ _ _ _ c.loop-i-test.true (omega (arith, l.invariant.room)) l.invariant.whole;
    }

pub returns-after-loop-i : goal.returns-after-loop-i
unfolding put
returns-after-loop-i c =
    rw (← c.inside.ensures, c.if-inside.true) (writing_ends _ _ _ _ _ c.loop-i-test.false c.loop-i.invariant.whole)

pub returns-else-inside : goal.returns-else-inside
unfolding put
returns-else-inside c = rw (← c.inside.ensures, c.if-inside.false)
