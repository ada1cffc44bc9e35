-- The outcome of a frame call, case by case.
-- Assumes nothing.
use Prim.Native.Nat.{ℕ, ◌<◌, ◌≤◌}
use mathlib.Core.Bool.{true, false}
use mathlib.Core.Option.{Option}
use mathlib.Core.Path.{◌≡◌, sym}
use mathlib.Core.List.{List, []}
use lib.ListN.{length}
use borrow.Author.Tests.{lt-ltb, le-ltb}
use Rattle.rules.specs.Limits.{list_numbers}
use Rattle.rules.specs.Answers.{answer_number, refusal_number}
use Rattle.rules.specs.Registers.{port_allowed, is_up}
use Rattle.rules.specs.Keyed.{find}
use Rattle.rules.specs.Tables.{id_of}
use Rattle.rules.specs.Frame.{Decider, Exit, found_outputs, is_frame, way, exit_outputs, keep, outputs, frame_refusal}
use Rattle.rules.specs.declared.Registers.{Registers}
use Rattle.rules.specs.declared.GroupEntry.{GroupEntry}
use Rattle.deciding.specs.Way.{exit_in}
use Rattle.deciding.specs.declared.WayOut.{WayOut}
use Rattle.rules.specs.declared.Refusal.TheVariants.{PortNotAllowed, NotAFrame, ListShort}
use Rattle.std.specs.Prelude.{Ok, Err}
use Rattle.outputs.specs.Outputs.{Lists}
use Rattle.egress.specs.Outcome.{Outcome}
use Rattle.outputs.proofs.Writing.{lists_none}

module _ (d : Registers) (decides : Decider) (groups : List GroupEntry) (port : ℕ) (f before : List ℕ) where
  pub port_refused : port_allowed d port ≡ false → Outcome d decides groups port f before (Err PortNotAllowed) before
  unfolding frame_refusal answer_number refusal_number
  port_refused p = record { answer = simp p; count = tt; list = simp p }

  module _ (p : port_allowed d port ≡ true) where
    pub frame_refused : is_frame f ≡ false → Outcome d decides groups port f before (Err NotAFrame) before
    unfolding frame_refusal answer_number refusal_number
    frame_refused q = record { answer = simp (p, q); count = tt; list = simp (p, q) }

    module _ (q : is_frame f ≡ true) where
      pub list_refused : length before < list_numbers → Outcome d decides groups port f before (Err ListShort) before
      unfolding frame_refusal answer_number refusal_number
      list_refused h =
          let s = lt-ltb (length before) list_numbers h in
          record { answer = simp (p, q, s); count = tt; list = simp (p, q, s) }

      module _ (h : list_numbers ≤ length before) where
        accepted : frame_refusal d port f before ≡ 0
        unfolding frame_refusal
        accepted = simp (p, q, le-ltb (length before) list_numbers h)

        done : {n : ℕ} {after : List ℕ} → Lists (outputs d decides groups port f) n before after → Outcome d decides groups port f before (Ok n) after
        unfolding answer_number
        done l = record { answer = sym accepted; count = l.count; list = rw accepted l.list }

        -- an ingress port that is "down or not enabled": no outputs
        pub port_down : is_up d port ≡ false → Outcome d decides groups port f before (Ok 0) before
        unfolding outputs
        port_down u = done (simp u (lists_none before))

        pub port_up : is_up d port ≡ true → {n : ℕ} {after : List ℕ} → Lists (keep d port (exit_outputs groups (way decides port f))) n before after
            → Outcome d decides groups port f before (Ok n) after
        unfolding outputs
        port_up u l = done (simp u l)

-- a way out, by whether there is one
module _ (groups : List GroupEntry) (w : WayOut) (r : Option Exit) (e : exit_in w ≡ r) where
  pub out_found : w.found ≡ true → exit_outputs groups r ≡ found_outputs groups w.vlan (find id_of w.group groups)
  unfolding exit_in exit_outputs
  out_found p = rw (← e) (simp p)

  pub out_none : w.found ≡ false → exit_outputs groups r ≡ []
  unfolding exit_in exit_outputs
  out_none p = rw (← e) (simp p)
