-- A run of the code is a list of calls of the rules' step: by induction on its chain, each contract giving the next switch and what is
-- seen. The theorem over every list of calls then speaks of the run.
-- Assumes nothing.
use Prim.Native.Nat.{ℕ, ◌≤◌}
use mathlib.Core.Bool.{Bool, true, false, not, ◌&&◌}
use mathlib.Core.Path.{◌≡◌, refl, sym, ap, ◌∙◌}
use mathlib.Core.List.{List, [], ◌∷◌, ◌++◌}
use native.Mathlib.Omega.{arith}
use borrow.Author.Tests.{leb-true, eq-eqb}
use lib.Dec.{leb}
use Rattle.std.specs.Prelude.{Ok, Err}
use Rattle.rules.specs.Choose.{refuse}
use Rattle.rules.specs.Limits.{max_ports}
use Rattle.rules.specs.Places.{live}
use Rattle.rules.specs.Registers.{port_count_allowed, current_terms}
use Rattle.rules.specs.Tables.{Arrays, tables_of, empty_tables, none_live}
use Rattle.rules.specs.Journal.{Progress, header, replay}
use Rattle.rules.specs.Engine.{no_order}
use Rattle.rules.specs.Switch.{Switch, Storage, order_in, switch_of, fresh_refusal, fresh_switch, fresh_device}
use Rattle.rules.specs.declared.Device.{Device}
use Rattle.rules.proofs.Cases.{and_left, and_right}
use Rattle.device.specs.Outcome.{borrowed, device_after, device_made}
use Rattle.device.proofs.Outcome.{completed_told, written_told, reset_told}
use Rattle.replaying.specs.Reading.{progress_of}
use Rattle.replaying.specs.Replaying.{result_of, Gives, Replayed}
use Rattle.history.specs.Trace.{Call, Seen, step_at, seen, final, trace}
use Rattle.history.specs.JournalHistory.{journal_of}
use Rattle.history.specs.Claim.{Claim}
use Rattle.history.proofs.Claim.{demand3}
use Rattle.runs.specs.Runs.{CodeCall, Ensured, Chain, last_device, last_arrays, seen_by, seen_of, Run, final_of, trace_of, ReplayedAs, CodeClaim}

-- ---- A fresh device

-- no place is live, so device and arrays stand for the fresh switch, whatever the places hold
pub fresh_switch_lem : (ports id : ℕ) (a : Storage) → switch_of (fresh_device ports id) a ≡ fresh_switch ports id
unfolding switch_of fresh_device fresh_switch tables_of none_live empty_tables live order_in no_order
fresh_switch_lem ports id a = refl

not_refused : (t : Bool) → refuse (not t) 7 0 ≡ 0 → t ≡ true
not_refused true e = refl
not_refused false e = absurd (omega arith)

-- answered 0, the port count is 1 to 62
ports_allowed : (ports : ℕ) → fresh_refusal ports ≡ 0 → (1 ≤ ports) × (ports ≤ max_ports)
unfolding fresh_refusal port_count_allowed
ports_allowed ports e =
    let t = not_refused (leb 1 ports && leb ports max_ports) e in
    (leb-true 1 ports (and_left _ _ t), leb-true ports max_ports (and_right (leb 1 ports) _ t))

-- ---- A chain of calls is a list of the rules' calls

abbrev call_of : CodeCall → Call
call_of c = record { request = c.request; borrowed = borrowed c.memory c.frame c.buffer c.list }

abbrev calls_of : List CodeCall → List Call
calls_of [] = []
calls_of (c ∷ cs) = call_of c ∷ calls_of cs

seen_is : (d : Device) (a : Storage) (c : CodeCall) → Ensured d a c
    → seen_by d c ≡ seen (switch_of d a) (call_of c).borrowed c.request (step_at (switch_of d a) (call_of c))
unfolding seen_by seen step_at borrowed
seen_is d a c o =
    let r : (switch_of d a).registers ≡ d.registers = unfold switch_of in refl in
    rw (o.answer_is, completed_told o, reset_told o, written_told o, o.buffer_is, o.memory_is, r)

chain_is : (d : Device) (a : Storage) (cs : List CodeCall) → Chain d a cs
    → (switch_of (last_device d cs) (last_arrays a cs) ≡ final (switch_of d a) (calls_of cs)) × (seen_of d cs ≡ trace (switch_of d a) (calls_of cs))
unfolding last_device last_arrays seen_of final trace
chain_is d a [] h = (refl, refl)
chain_is d a (c ∷ cs) h =
    let r = chain_is (device_after d c.gives) c.arrays_after cs h.1 in
    let next : switch_of (device_after d c.gives) c.arrays_after ≡ (step_at (switch_of d a) (call_of c)).switch = unfold step_at in h.0.switch_is in
    let r' = rw next at r in
    (r'.0, rw (seen_is d a c h.0, r'.1))

-- ---- A replay of the code

replayed_as : (ports : ℕ) (s : Switch) (t : List Seen) → Claim ports s t → (q : Replayed) (a : Arrays)
    → Gives q a (replay (header (current_terms ports) ++ (journal_of t).journal)) → ReplayedAs q a ports s t
unfolding result_of progress_of
replayed_as ports s t c (Ok p) a g =
    let e = g.result_is ∙ c.replays in
    let came : Progress = record { terms = current_terms ports; records = (journal_of t).records; charged = (journal_of t).completed_ok; tables = s.tables } in
    let i : progress_of p a ≡ came = cc in
    record {
      progress = p;
      done = refl;
      tables_are = ap (λ (x : Progress). x.tables) i;
      charged_is = ap (λ (x : Progress). x.charged) i;
      records_are = ap (λ (x : Progress). x.records) i;
      ports_are = ap (λ (x : Progress). x.terms.ports) i;
    }
replayed_as ports s t c (Err f) a g =
    let e = g.result_is ∙ c.replays in absurd (let w : ◌≡◌ {A = ℕ} 0 1 = cc in omega arith)

-- ---- THE THEOREM

-- every run of the code: of the switch that device and arrays stand for at its end, and of what was seen
pub demand3_of_code : (ports id : ℕ) (r : Run ports id) → CodeClaim ports (final_of r) (trace_of r)
unfolding final_of trace_of
demand3_of_code ports id r =
    let z : fresh_refusal ports ≡ 0 = sym r.fresh.answer_is ∙ r.answered in
    let p = ports_allowed ports z in
    let base : switch_of (device_made r.made) r.arrays ≡ fresh_switch ports id = rw (r.fresh.device_is, eq-eqb (fresh_refusal ports) 0 z) (fresh_switch_lem ports id r.arrays) in
    let c = rw base at (chain_is (device_made r.made) r.arrays r.calls r.chain) in
    let claim : Claim ports (final_of r) (trace_of r) = rw (c.0, c.1) (demand3 ports id p.0 p.1 (calls_of r.calls)) in
    record { claim = claim; replayed = replayed_as ports (final_of r) (trace_of r) claim }
