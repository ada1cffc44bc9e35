-- `copies::routed_copy` meets its contract.
-- Assumes nothing.
use Rattle.rules.specs.Frame.{mac_numbers, copy_of}
use Rattle.copies.specs.Copies.{rewrite_in}
use Rattle.copies.proofs.routed_copy.Goals as goal

pub returns : goal.returns
unfolding copy_of mac_numbers rewrite_in
returns c =
    rw (c.number-p.ensures, c.mac_numbers-d.ensures, c.mac_numbers-s.ensures, c.requires)
