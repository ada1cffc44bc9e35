-- Payloads taken from a list, and carried out one after another.
use Rattle.std.specs.Prelude.{ℕ, zero, suc, ◌+◌, ◌≡◌, List, [], ◌∷◌, drop}
use Rattle.rules.specs.Bytes.{le_at, part}
use Rattle.rules.specs.Tables.{Tables, execute}
use Rattle.rules.specs.declared.Terms.{Terms}
use Rattle.rules.specs.declared.Status.TheVariants.{Ok}
use Rattle.rules.proofs.Charge.{Recorded}

-- the first n payloads of a list, each "after its length (2 bytes)"
unfoldable pub taken_from : ℕ → List ℕ → List (List ℕ)
taken_from zero list = []
taken_from (suc n) list = part (le_at 2 list 0) list 2 ∷ taken_from n (drop (2 + le_at 2 list 0) list)

-- the tables after the last of them
unfoldable pub carried_all : Terms → List (List ℕ) → Tables → Tables
carried_all terms [] t = t
carried_all terms (p ∷ ps) t = carried_all terms ps (execute terms p t).tables

-- each "must complete OK"
abbrev pub AllOk : Terms → List (List ℕ) → Tables → Type 0
AllOk terms [] t = Unit
AllOk terms (p ∷ ps) t = ((execute terms p t).status ≡ Ok) × AllOk terms ps (execute terms p t).tables

-- their records in the trail, from the slots that they were posted in
unfoldable pub ok_records : List (List ℕ) → List ℕ → List Recorded
ok_records [] slots = []
ok_records (p ∷ ps) [] = record { status = Ok; payload = p; slot = 0 } ∷ ok_records ps []
ok_records (p ∷ ps) (s ∷ slots) = record { status = Ok; payload = p; slot = s } ∷ ok_records ps slots
