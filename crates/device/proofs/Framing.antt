-- A frame call: what egress gives is the rules' step.
-- Assumes nothing.
use Prim.Native.Nat.{ℕ}
use mathlib.Core.Bool.{false}
use mathlib.Core.Path.{◌≡◌, refl, sym, ◌∙◌}
use mathlib.Core.List.{List}
use borrow.Author.Tests.{ne_eqb}
use lib.Dec.{eqb}
use Rattle.std.specs.Prelude.{Ok, Err}
use Rattle.rules.specs.Answers.{answer_number}
use Rattle.rules.specs.Registers.{raised}
use Rattle.rules.specs.Tables.{tables_of, live_flows, live_groups}
use Rattle.rules.specs.Engine.{decides_first}
use Rattle.rules.specs.Frame.{frame_refusal}
use Rattle.rules.specs.Switch.{Storage, order_in, switch_of, framed, refusal_by, effect_by, step}
use Rattle.rules.specs.declared.Refusal.{Refusal}
use Rattle.rules.specs.declared.Device.{Device}
use Rattle.rules.specs.declared.Request.TheVariants.{Frame}
use Rattle.answers.proofs.Refusals.{refusal_positive}
use Rattle.egress.specs.Outcome as egress
use Rattle.device.specs.Outcome.{Outcome, borrowed}
use Rattle.device.proofs.Outcome.{outcome_refused, outcome_done}

module _ (d : Device) (a : Storage) (memory f buffer list after : List ℕ) (port : ℕ) where
  pub frame_done : (n : ℕ)
      → egress.Outcome d.registers (decides_first (live_flows d.counts.flows a.arrays.flows) (order_in d.counts.flows d.firsts a.order))
      (live_groups d.counts.groups a.arrays.heads a.arrays.members) port f list (Ok n) after
      → Outcome (Ok (record { value = 0; interrupt = false; completed = 0; written = 0; outputs = n; reset = false; device = d })) d a a memory buffer after (step (switch_of d a) (borrowed memory f buffer list) (Frame port))
  unfolding answer_number raised refusal_by effect_by framed switch_of tables_of borrowed
  frame_done n h =
      let z = sym h.answer in
      outcome_done d a (borrowed memory f buffer list) (Frame port) _ _ _ _ _ z
      (record { answer_is = refl; told_is = rw h.count; memory_is = refl; buffer_is = refl; list_is = h.list ∙ rw z; switch_is = refl; device_kept = λ n. refl; places_kept = λ n. refl })

  pub frame_refused : (e : Refusal)
      → egress.Outcome d.registers (decides_first (live_flows d.counts.flows a.arrays.flows) (order_in d.counts.flows d.firsts a.order))
      (live_groups d.counts.groups a.arrays.heads a.arrays.members) port f list (Err e) after
      → Outcome (Err e) d a a memory buffer after (step (switch_of d a) (borrowed memory f buffer list) (Frame port))
  unfolding answer_number refusal_by switch_of borrowed
  frame_refused e h =
      let t : eqb (frame_refusal d.registers port f list) 0 ≡ false = ne_eqb _ 0 (λ z. refusal_positive e (h.answer ∙ z)) in
      let l : after ≡ list = h.list ∙ rw t in
      rw l (outcome_refused d a (borrowed memory f buffer list) (Frame port) e h.answer)
