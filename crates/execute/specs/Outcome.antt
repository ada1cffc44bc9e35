-- What carrying a payload out comes to.
use Rattle.std.specs.Prelude.{ℕ, ◌≡◌, List, Result}
use Rattle.rules.specs.Tables.{Arrays, arrays, Executed as Rule, tables_of, executed, command_status, command_effect}
use Rattle.rules.specs.declared.Counts.{Counts}
use Rattle.rules.specs.declared.Command.{Command}
use Rattle.rules.specs.declared.Status.TheVariants.{Ok}
use Rattle.rules.specs.declared.Status.{Status}
use Rattle.std.specs.Result.{result_unwrap_or}
use Rattle.tables.specs.Commands.{status_of}

-- Of a payload on the tables that these counts and the arrays a hold: the rule's status, and its tables in the arrays a' under the counts
-- then
pub record Carried (status : Status) (then counts : Counts) (a a' : Arrays) (rule : Rule) : Type 0 where
  pub status_is : status ≡ rule.status
  pub tables_are : tables_of then a' ≡ rule.tables
  -- a status other than OK leaves both counts and every word of both tables, those of free places too
  pub kept : (rule.status ≡ Ok → ⊥) → (then ≡ counts) × (a' ≡ a)

abbrev pub Executes : Result Counts Status → Counts → Arrays → Arrays → Rule → Type 0
Executes r counts a a' rule = Carried (status_of r) (result_unwrap_or r counts) counts a a' rule

-- the same of a command, with the members of its group
abbrev pub Commands : Result Counts Status → Counts → Arrays → Arrays → Command → List ℕ → Type 0
Commands r counts a a' c m =
    Executes r counts a a' (executed (tables_of counts a) (command_status (tables_of counts a) c) (command_effect (tables_of counts a) c m))

-- Of a command on the group table: so it is whatever the flows are, and they stay
pub record OnGroups (r : Result Counts Status) (counts : Counts) (heads members heads' members' : List (List ℕ)) (c : Command) (m : List ℕ) : Type 0 where
  pub flows_kept : (result_unwrap_or r counts).flows ≡ counts.flows
  pub commands : (flows : List (List ℕ)) → Commands r counts (arrays flows heads members) (arrays flows heads' members') c m
