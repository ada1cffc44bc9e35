-- The rest is listed behind the dels (Whole).
-- Assumes nothing.
use Rattle.listing.specs.Listing.{nothing_listed}
use Rattle.listing.proofs.Whole.{all_listed}
use Rattle.listing.proofs.list.Goals as goal

pub returns : goal.returns
unfolding nothing_listed
returns c =
    all_listed _ _ c.both-a.ensures c.given_back.ensures
