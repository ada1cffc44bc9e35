use borrow.Author.Tests.{eq-eqb, ne_eqb}
use Rattle.hexadecimal.specs.Hex.{spelled_at}
use Rattle.hexadecimal.proofs.digit.Goals as goal

pub returns-in-Some : goal.returns-in-Some
unfolding spelled_at
returns-in-Some c = let h = c.in-Some.ensures.lookup in simp (← h.0, eq-eqb _ _ c.if-k-eq0.true, ← h.3.1 0) c.letter.ensures

pub returns-in-Some-2 : goal.returns-in-Some-2
unfolding spelled_at
returns-in-Some-2 c = let h = c.in-Some.ensures.lookup in simp (← h.0, ne_eqb _ _ c.if-k-eq0.false, ← h.3.1 0) c.letter-in-Some-2.ensures

pub returns-in-None : goal.returns-in-None
unfolding spelled_at
returns-in-None c = let h = c.in-None.ensures.lookup in simp (← h.0)
