-- Adds are listed behind mods (Whole).
-- Assumes nothing.
use Rattle.listing.proofs.Whole.{back_listed}
use Rattle.listing.proofs.given_back.Goals as goal

pub returns : goal.returns
returns c =
    back_listed _ _ c.both-a.ensures c.both.ensures
