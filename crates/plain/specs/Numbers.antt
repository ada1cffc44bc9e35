-- What the exported functions take and give, as numbers.
use Rattle.std.specs.Prelude.{ℕ, ◌%◌, not, ◌≡◌, List, eqb, get_or}
use Rattle.std.proofs.Math.Option.{Option, none, some}
use Rattle.rules.specs.Choose.{choose}
use Rattle.rules.specs.Answers.{code}
use Rattle.rules.specs.Frame.{Exit}
use Rattle.rules.specs.Places.{Places}
use Rattle.rules.specs.declared.Status.{Status}
use Rattle.rules.specs.declared.Firsts.{Firsts}
use Rattle.deciding.specs.declared.Headers.{Headers}

-- a command's status by its code: `Does` is what a command promises by its status, of the rows and the count after it
pub record Coded (Does : Status → Places (List ℕ) → Type 0) (r : ℕ) (t : Places (List ℕ)) : Type 0 where
  pub status : Status
  pub code_is : r ≡ code status
  pub does : Does status t

unfoldable pub headers_at : List ℕ → Headers
headers_at n =
    record {
      mac = get_or n 0 0;
      address_high = get_or n 1 0;
      address_low = get_or n 2 0;
      vlan = get_or n 3 0 % 65536;
      ethertype = get_or n 4 0 % 65536;
      routable = not (eqb (get_or n 5 0) 0);
    }

unfoldable pub firsts_at : List ℕ → Firsts
firsts_at n = record { vlan = get_or n 0 0; termination = get_or n 1 0; routing = get_or n 2 0; bridging = get_or n 3 0 }

-- a way out as three numbers: whether there is one, its VLAN and its group
unfoldable pub way_at : List ℕ → Option Exit
way_at n = choose (not (eqb (get_or n 0 0) 0)) (some (record { vlan = get_or n 1 0; group = get_or n 2 0 })) none
