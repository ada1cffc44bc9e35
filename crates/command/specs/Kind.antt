-- The kinds of commands by their numbers.
use Rattle.std.specs.Prelude.{ℕ, eqb, Result, Ok, Err}
use Rattle.rules.specs.Choose.{choose}
use Rattle.command.specs.declared.kind.CommandKind.{CommandKind}
use Rattle.command.specs.declared.kind.CommandKind.TheVariants.{FlowAdd, FlowMod, FlowDel, GroupAdd, GroupMod, GroupDel}
use Rattle.command.specs.declared.kind.UnknownCommand.{UnknownCommand}

abbrev pub kind_of : ℕ → Result CommandKind UnknownCommand
kind_of n =
    choose (eqb n 3) (Ok FlowAdd)
    (choose (eqb n 4) (Ok FlowMod)
    (choose (eqb n 5) (Ok FlowDel)
    (choose (eqb n 7) (Ok GroupAdd)
    (choose (eqb n 8) (Ok GroupMod)
    (choose (eqb n 9) (Ok GroupDel) (Err (record {})))))))

abbrev pub number_of : CommandKind → ℕ
number_of FlowAdd = 3
number_of FlowMod = 4
number_of FlowDel = 5
number_of GroupAdd = 7
number_of GroupMod = 8
number_of GroupDel = 9
