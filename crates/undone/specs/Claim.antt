-- Request 2026-06 as one claim, of every journal that replays and every n up to its records.
use Rattle.std.specs.Prelude.{ℕ, ◌+◌, ◌≤◌, ◌≡◌, List, ◌++◌, length, take}
use Rattle.rules.specs.Limits.{max_payload}
use Rattle.rules.specs.Registers.{current_terms}
use Rattle.rules.specs.Journal.{Progress, replay}
use Rattle.rules.specs.Journal.Replayed.{Replays}
use Rattle.rules.specs.Undo.{Undone, first_records, payloads, listed, undo, written_undo}
use Rattle.rules.proofs.Charge.{written}
use Rattle.encoded.specs.Admitted.{Each}
use Rattle.undone.specs.Carried.{taken_from, carried_all, AllOk, ok_records}

pub record GivesBack (journal : List ℕ) (n : ℕ) (now : Progress) : Type 0 where
  -- what stood "after its first n lines"
  pub earlier : Progress
  pub first_replays : replay (first_records n journal) ≡ Replays earlier
  pub first_records : earlier.records ≡ n
  pub same_terms : earlier.terms ≡ now.terms
  -- the list is the call's, in every room that has place for it, and tells its payloads apart
  pub list_is : (room : List ℕ) → length (listed (payloads earlier.tables now.tables)) ≤ length room
      → undo journal n room ≡ written_undo (payloads earlier.tables now.tables) room
  pub reads_back : taken_from (length (payloads earlier.tables now.tables)) (listed (payloads earlier.tables now.tables))
      ≡ payloads earlier.tables now.tables
  -- "carried out after the whole trail", by a device with its ports, whose length meaning is that of the list whatever the journal's
  -- is, each payload "must complete OK", and gives "back the tables"
  pub all_ok : AllOk (current_terms now.terms.ports) (payloads earlier.tables now.tables) now.tables
  pub gives_back : carried_all (current_terms now.terms.ports) (payloads earlier.tables now.tables) now.tables ≡ earlier.tables
  -- each is one that a slot can hold
  pub short : Each (λ p. length p ≤ max_payload) (payloads earlier.tables now.tables)
  -- "ordinary commands, charged and in the trail" of such a device whose tables are those of now, whatever slots they were posted in.
  -- A journal of the device's version is such a trail itself
  pub in_the_trail : (trail : List ℕ) (p : Progress) (slots : List ℕ)
      → replay trail ≡ Replays p → p.terms ≡ current_terms now.terms.ports → p.tables ≡ now.tables
      → replay (trail ++ written (ok_records (payloads earlier.tables now.tables) slots))
      ≡ Replays
      (record {
        terms = p.terms;
        records = p.records + length (payloads earlier.tables now.tables);
        charged = p.charged + length (payloads earlier.tables now.tables);
        tables = earlier.tables;
      })

-- What an answer of 0 tells whoever has the room: the journal replays and has n records, and what stands at the start of the room, taken as
-- payloads, is the list of the claim
pub record Told (journal : List ℕ) (n : ℕ) (u : Undone) : Type 0 where
  pub now : Progress
  pub replays : replay journal ≡ Replays now
  pub enough : n ≤ now.records
  pub claim : GivesBack journal n now
  pub payloads_are : taken_from u.count (take u.size u.room) ≡ payloads claim.earlier.tables now.tables
