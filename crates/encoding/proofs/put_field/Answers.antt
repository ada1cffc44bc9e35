use Rattle.rules.specs.Encode.{number_bytes}
use Rattle.encoding.proofs.FieldLists.{plain}
use borrow.Author.Rules.{rules}
use Rattle.encoding.proofs.put_field.Goals as goal

pub put_number-requires : goal.put_number-requires
put_number-requires c = (search rules, rw c.rule_of-rule.ensures (plain _ c.requires.1))

pub returns : goal.returns
unfolding number_bytes
returns c =
    rw c.rule_of-rule.ensures at c.put_number.ensures
