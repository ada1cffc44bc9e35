-- What was written at the start of the buffer is the payload (Splices).
-- Assumes nothing.
use Rattle.listing.proofs.Splices.{front_length, front_few, adds_front}
use Rattle.listing.proofs.add_flow.Goals as goal

pub slice_bounds-add-end : goal.slice_bounds-add-end
slice_bounds-add-end c = front_length c.flow-n.ensures

pub add-requires : goal.add-requires
add-requires c =
    (c.requires.0, c.requires.1, front_few c.flow-n.ensures)

pub returns : goal.returns
returns c =
    adds_front c.flow-n.ensures c.add.ensures
