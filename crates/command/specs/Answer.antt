-- What is read of a payload, or the status of its first fault, as the rules' decoding.
use Rattle.std.specs.Prelude.{ℕ, List, [], eqb, Result, Ok, Err, Option, Some}
use Rattle.std.specs.Result.{result_ok}
use Rattle.rules.specs.Choose.{choose}
use Rattle.rules.specs.Fields.{value}
use Rattle.rules.specs.GroupId.{group_type, is_routing}
use Rattle.rules.specs.Members.{pad}
use Rattle.rules.specs.Decode.{refused, carried, members_of}
use Rattle.rules.specs.declared.Status.{Status}
use Rattle.rules.specs.declared.Command.{Command}
use Rattle.rules.specs.declared.Decoding.{Decoding}
use Rattle.members.specs.Listed.{listed}

-- a part of a command that has no members
abbrev pub carried_by : {A : Type 0} → (A → Command) → Result A Status → Decoding
carried_by make (Ok x) = carried (make x) []
carried_by make (Err e) = refused e

-- one with its members
abbrev pub answered_by : {A : Type 0} → (A → Command) → Result (A × List ℕ) Status → Decoding
answered_by make (Ok x) = record { what = Ok (make x.0); members = x.1 }
answered_by make (Err e) = refused e

abbrev pub answered : Result (Command × List ℕ) Status → Decoding
answered r = answered_by (λ c. c) r

-- the low bits of a group's members, if they are right for its count where it lists them
unfoldable pub lows_of : ℕ → List ℕ → ℕ → Option (List ℕ)
lows_of h s id =
    choose (eqb (group_type id) 0) (Some (pad []))
    (choose (is_routing (group_type id)) (Some (pad (members_of h s id).lows))
    (result_ok (listed (value h s 12) (members_of h s id))))
