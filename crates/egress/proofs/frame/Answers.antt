-- The answers in their order: each return has the tests before it as facts, and the rules' refusal comes out with the same number.
-- Assumes nothing.
use mathlib.Core.Path.{sym, ◌∙◌}
use Rattle.ports.proofs.Bitmaps.{port_small}
use Rattle.egress.proofs.Outcomes.{port_refused, frame_refused, list_refused, port_down, port_up}
use native.Mathlib.Omega.{arith}
use Rattle.egress.proofs.frame.Goals as goal

pub returns-then-not-port_allowed : goal.returns-then-not-port_allowed
returns-then-not-port_allowed c =
    port_refused _ _ _ _ _ _ (sym c.port_allowed.ensures ∙ c.if-not-port_allowed.true)

pub returns-then-not-is_frame : goal.returns-then-not-is_frame
returns-then-not-is_frame c =
    let allowed = sym c.port_allowed.ensures ∙ c.if-not-port_allowed.false in
    frame_refused _ _ _ _ _ _ allowed (sym c.is_frame.ensures ∙ c.if-not-is_frame.true)

pub returns-then-list-lt-LIST_NUMBERS : goal.returns-then-list-lt-LIST_NUMBERS
returns-then-list-lt-LIST_NUMBERS c =
    let allowed = sym c.port_allowed.ensures ∙ c.if-not-port_allowed.false in
    let right = sym c.is_frame.ensures ∙ c.if-not-is_frame.false in
    list_refused _ _ _ _ _ _ allowed right c.if-list-lt-LIST_NUMBERS.true

pub returns-then-not-is_up : goal.returns-then-not-is_up
returns-then-not-is_up c =
    let allowed = sym c.port_allowed.ensures ∙ c.if-not-port_allowed.false in
    let right = sym c.is_frame.ensures ∙ c.if-not-is_frame.false in
    let down = sym c.is_up.ensures ∙ c.if-not-is_up.true in
    port_down _ _ _ _ _ _ allowed right c.if-list-lt-LIST_NUMBERS.false down

pub overflow_cast-port : goal.overflow_cast-port
overflow_cast-port c =
    let a = c.args in
    let allowed = sym c.port_allowed.ensures ∙ c.if-not-port_allowed.false in
    record { fits = omega (arith, port_small a.d a.port allowed) }

pub returns : goal.returns
returns c =
    let allowed = sym c.port_allowed.ensures ∙ c.if-not-port_allowed.false in
    let right = sym c.is_frame.ensures ∙ c.if-not-is_frame.false in
    let up = sym c.is_up.ensures ∙ c.if-not-is_up.false in
    port_up _ _ _ _ _ _ allowed right c.if-list-lt-LIST_NUMBERS.false up c.outputs_from-n.ensures
