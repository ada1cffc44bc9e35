use native.Mathlib.Omega.{arith}
use Rattle.encoding.proofs.FieldLists.{many_put}
use borrow.Author.Rules.{rules}
use Rattle.encoding.proofs.put_many.Goals as goal

pub returns : goal.returns
returns c =
    many_put _ (omega (arith, c.requires)) (search rules) c.put_field-a.ensures c.put_field-b.ensures c.put_nest.ensures
