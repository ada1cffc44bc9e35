-- As add_flow.
-- Assumes nothing.
use Rattle.listing.proofs.Splices.{front_length, front_few, adds_front}
use Rattle.listing.proofs.add_group.Goals as goal

pub slice_bounds-add-end : goal.slice_bounds-add-end
slice_bounds-add-end c = front_length c.group-n.ensures

pub add-requires : goal.add-requires
add-requires c =
    (c.requires.0, c.requires.1, front_few c.group-n.ensures)

pub returns : goal.returns
returns c =
    adds_front c.group-n.ensures c.add.ensures
