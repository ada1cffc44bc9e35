-- What `place` found stays within the table.
-- Assumes nothing.
use mathlib.Core.Path.{refl}
use lib.ListN.{length, take}
use Rattle.tables.proofs.Search.{held_within, held_refusal}
use Rattle.tables.proofs.places.held_place.Goals as goal

pub returns-clause-within : goal.returns-clause-within
returns-clause-within g c =
    let a = c.args in
    held_within g.P.Keyed.key (length a.places.now) a.key a.count a.places.now refl c.or.result (rw (c.or.ensures, c.place.ensures, c.live.ensures) refl)

pub returns-clause-refusal : goal.returns-clause-refusal
returns-clause-refusal g c =
    let a = c.args in
    held_refusal g.P.Keyed.key a.key (take a.count a.places.now) c.or.result (rw (c.or.ensures, c.place.ensures, c.live.ensures) refl)
