-- As flow_step, over two arrays.
-- Assumes nothing.
use mathlib.Core.Path.{refl, sym, ◌∙◌}
use mathlib.Core.List.{[]}
use Rattle.rules.specs.Rows.{group_in}
use Rattle.rules.specs.Tables.{id_of}
use Rattle.picking.proofs.Live.{group_at, group_goes, group_stops}
use Rattle.listing.proofs.Steps.{step_ends, step_there}
use Rattle.listing.proofs.Tables.{group_run_nil, group_listed, group_passed}
use borrow.Author.Rules.{rules}
use Rattle.listing.proofs.group_step.Goals as goal

pub returns-in_default : goal.returns-in_default
returns-in_default c =
    let a = c.args in
    let g = group_stops a.started a.counts.groups a.key a.places.now.heads a.places.now.members (search rules) (search rules) (sym c.in_default.is ∙ c.next_place.ensures.place) in
    record { steps = step_ends id_of g.0 _ _ _ (group_run_nil _ _ _) g.1 refl refl; key_bound = c.requires.2 }

pub returns-then-picks_group : goal.returns-then-picks_group
returns-then-picks_group c =
    let a = c.args in
    let g = group_goes a.started a.counts.groups a.key a.places.now.heads a.places.now.members (search rules) (search rules) c.in-Some.at c.in-Some.ensures.place in
    record {
      steps = step_there id_of g.0 _ (group_in ([], [])) g.1
          (group_at _ _ a.places.now.heads a.places.now.members (search rules) (search rules) g.1 ∙ sym c.group_of-e.ensures) refl refl
          (group_listed _ _ _ _ c.picks_group.ensures c.if-picks_group.true c.add_group-listed.ensures);
      key_bound = search rules;
    }

pub returns-else-picks_group : goal.returns-else-picks_group
returns-else-picks_group c =
    let a = c.args in
    let g = group_goes a.started a.counts.groups a.key a.places.now.heads a.places.now.members (search rules) (search rules) c.in-Some.at c.in-Some.ensures.place in
    record {
      steps = step_there id_of g.0 _ (group_in ([], [])) g.1
          (group_at _ _ a.places.now.heads a.places.now.members (search rules) (search rules) g.1 ∙ sym c.group_of-e.ensures) refl refl
          (group_passed _ _ _ _ c.picks_group.ensures _ _ c.if-picks_group.false);
      key_bound = search rules;
    }
