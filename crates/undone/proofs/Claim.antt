-- Every journal can be undone to each of its records: its tables and the earlier ones are good and admitted for its ports, as those of every
-- journal are, so by a device with these ports the list completes OK and gives the earlier ones back, and its records replay in the trail
-- of every device that has the journal's tables.
-- Assumes nothing.
use Prim.Native.Nat.{ℕ, ◌+◌, ◌≤◌}
use mathlib.Core.Path.{◌≡◌, refl, sym, ap, ◌∙◌}
use mathlib.Core.List.{List, [], ◌∷◌, ◌++◌}
use native.Mathlib.Omega.{arith}
use lib.ListN.{length, drop}
use lib.Seq.{take-append_seam, drop-append_seam, drop-drop}
use borrow.Author.Tests.{le-ltb}
use Rattle.rules.specs.Limits.{max_payload}
use Rattle.rules.specs.Version.{current}
use Rattle.rules.specs.Registers.{current_terms}
use Rattle.rules.specs.Bytes.{le_at, bytes_of, part}
use Rattle.rules.specs.Journal.{Progress, replay}
use Rattle.rules.specs.Journal.Replayed.{Replays}
use Rattle.rules.specs.Tables.{Tables}
use Rattle.rules.specs.Undo.{first_records, tables_in, tables_then, payloads, listed, fitted, undo_from, undo, written_undo, records_size}
use Rattle.rules.specs.declared.Terms.{Terms}
use Rattle.rules.proofs.Bytes.{two_front}
use Rattle.rules.proofs.Charge.{written}
use Rattle.encoded.specs.Admitted.{AreBytes, Each, Admitted}
use Rattle.encoded.proofs.Flows.{flow_add, flow_mod, flow_del_lem, flow_short}
use Rattle.encoded.proofs.Groups.{group_add, group_mod, group_del_lem, group_short}
use Rattle.undone.specs.Carried.{taken_from, carried_all, AllOk, ok_records}
use Rattle.undone.specs.Claim.{GivesBack}
use Rattle.undone.proofs.Listed.{gives_back, all_short}
use Rattle.undone.proofs.Admits.{bytes_take}
use Rattle.undone.proofs.Prefix.{first_replays}
use Rattle.undone.proofs.Replays.{replay_good, replay_admits, appended}

-- the call's list is that of the earlier tables
list_is : (journal : List ℕ) (n : ℕ) (now earlier : Progress) → replay journal ≡ Replays now → n ≤ now.records
    → replay (first_records n journal) ≡ Replays earlier → (room : List ℕ)
    → length (listed (payloads earlier.tables now.tables)) ≤ length room
    → undo journal n room ≡ written_undo (payloads earlier.tables now.tables) room
unfolding undo undo_from fitted tables_then tables_in
list_is journal n now earlier r h f room fits = rw (r, f, le-ltb _ _ h, le-ltb _ _ fits)

-- a payload that is short enough is told by its length
taken_first : (p rest : List ℕ) → length p ≤ max_payload → (le_at 2 (bytes_of 2 (length p) ++ (p ++ rest)) 0 ≡ length p) × (drop 2 (bytes_of 2 (length p) ++ (p ++ rest)) ≡ p ++ rest)
unfolding le_at bytes_of
taken_first p rest h = (two_front (length p) (p ++ rest) (omega arith), refl)

list_reads : (ps : List (List ℕ)) → Each (λ p. length p ≤ max_payload) ps → taken_from (length ps) (listed ps) ≡ ps
unfolding taken_from listed part
list_reads [] h = refl
list_reads (p ∷ ps) h =
    let t = taken_first p (listed ps) h.0 in
    let more : drop (2 + length p) (bytes_of 2 (length p) ++ (p ++ listed ps)) ≡ listed ps =
    sym (drop-drop (length p) 2 _) ∙ ap (drop (length p)) t.1 ∙ drop-append_seam p (listed ps) in
    rw (t.0, t.1, take-append_seam, more, list_reads ps h.1)

under : (s t : Terms) (x : Tables) → s ≡ t → Admitted s.ports x → Admitted t.ports x
under s t x e a = rw (← e) a

-- payloads that complete OK under some terms, in a trail that has these terms and the tables that they begin with
in_trail : (terms : Terms) (ps : List (List ℕ)) (t u : Tables) → AllOk terms ps t → carried_all terms ps t ≡ u → Each (λ x. length x ≤ max_payload) ps
    → (trail : List ℕ) (p : Progress) (slots : List ℕ) → replay trail ≡ Replays p → p.terms ≡ terms → p.tables ≡ t
    → replay (trail ++ written (ok_records ps slots))
    ≡ Replays (record { terms = p.terms; records = p.records + length ps; charged = p.charged + length ps; tables = u })
in_trail terms ps t u ok back short trail p slots r d s = appended trail p ps r (rw (d, s) ok) short slots ∙ rw (d, s, back)

-- THE CLAIM
pub undone : (journal : List ℕ) (n : ℕ) (now : Progress) → AreBytes journal → replay journal ≡ Replays now → n ≤ now.records → GivesBack journal n now
unfolding first_records
undone journal n now bytes r h =
    let f = first_replays journal now n r h in
    let earlier = f.progress in
    let ports = now.terms.ports in
    let device = current_terms ports in
    let then_bytes = bytes_take (6 + records_size n _) journal bytes in
    let then_admitted : Admitted ports earlier.tables = under _ _ _ f.terms_are (replay_admits (first_records n journal) earlier then_bytes f.replays) in
    let now_admitted = replay_admits journal now bytes r in
    let back = gives_back device (flow_add ports) (flow_mod ports) (flow_del_lem ports) (group_add ports) (group_mod ports) (group_del_lem ports) earlier.tables now.tables (replay_good (first_records n journal) earlier f.replays) (replay_good journal now r) then_admitted now_admitted in
    let short = all_short ports flow_short (group_short ports) earlier.tables now.tables then_admitted now_admitted in
    record {
      earlier = earlier;
      first_replays = f.replays;
      first_records = f.records_are;
      same_terms = f.terms_are;
      list_is = list_is journal n now earlier r h f.replays;
      reads_back = list_reads _ short;
      all_ok = back.0;
      gives_back = back.1;
      short = short;
      in_the_trail = in_trail device (payloads earlier.tables now.tables) now.tables earlier.tables back.0 back.1 short;
    }

-- a journal of the device's version is such a trail itself
of_device : (t : Terms) → t.version ≡ current → t ≡ current_terms t.ports
of_device t v = λ i. record { ports = t.ports; version = v i }

pub behind_it : (journal : List ℕ) (n : ℕ) (now : Progress) (g : GivesBack journal n now) → replay journal ≡ Replays now → now.terms.version ≡ current
    → (slots : List ℕ)
    → replay (journal ++ written (ok_records (payloads g.earlier.tables now.tables) slots))
    ≡ Replays
    (record {
      terms = now.terms;
      records = now.records + length (payloads g.earlier.tables now.tables);
      charged = now.charged + length (payloads g.earlier.tables now.tables);
      tables = g.earlier.tables;
    })
behind_it journal n now g r v slots = g.in_the_trail journal now slots r (of_device now.terms v) refl
