-- Behind the last flow nothing is left; else the flow there is listed, or passed (Steps, Tables).
-- Assumes nothing.
use mathlib.Core.Path.{refl, sym, ◌∙◌}
use mathlib.Core.List.{[]}
use Rattle.rules.specs.Rows.{entry_in}
use Rattle.rules.specs.Tables.{cookie_of}
use Rattle.picking.proofs.Live.{flow_at, flow_goes, flow_stops}
use Rattle.listing.proofs.Steps.{step_ends, step_there}
use Rattle.listing.proofs.Tables.{flow_run_nil, flow_listed, flow_passed}
use borrow.Author.Rules.{rules}
use Rattle.listing.proofs.flow_step.Goals as goal

pub returns-in_default : goal.returns-in_default
returns-in_default c =
    let a = c.args in
    let g = flow_stops a.started a.counts.flows a.key a.places.now.flows (search rules) (sym c.in_default.is ∙ c.next_place.ensures.place) in
    step_ends cookie_of g.0 _ _ _ (flow_run_nil _ _ _) g.1 refl refl

pub returns-then-picks_flow : goal.returns-then-picks_flow
returns-then-picks_flow c =
    let a = c.args in
    let g = flow_goes a.started a.counts.flows a.key a.places.now.flows (search rules) c.in-Some.at c.in-Some.ensures.place in
    step_there cookie_of g.0 _ (entry_in []) g.1
    (flow_at _ _ _ g.1 ∙ sym c.entry_of-e.ensures) refl refl
    (flow_listed _ _ _ _ c.picks_flow.ensures c.if-picks_flow.true c.add_flow-listed.ensures)

pub returns-else-picks_flow : goal.returns-else-picks_flow
returns-else-picks_flow c =
    let a = c.args in
    let g = flow_goes a.started a.counts.flows a.key a.places.now.flows (search rules) c.in-Some.at c.in-Some.ensures.place in
    step_there cookie_of g.0 _ (entry_in []) g.1
    (flow_at _ _ _ g.1 ∙ sym c.entry_of-e.ensures) refl refl
    (flow_passed _ _ _ _ c.picks_flow.ensures _ _ c.if-picks_flow.false)
