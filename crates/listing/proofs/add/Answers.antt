-- Where it fits, the length and the payload are two writings, one behind the other (Splices); else only counted.
-- Assumes nothing.
use mathlib.Core.Path.{refl}
use Rattle.listing.proofs.Splices.{adds_written, adds_only_counted}
use Rattle.listing.proofs.add.Goals as goal

pub returns-then-end-out : goal.returns-then-end-out
returns-then-end-out c =
    adds_written _ _ _ _ refl refl c.requires.2 c.if-end-out.true c.put.ensures c.put_bytes.ensures

pub returns-else-end-out : goal.returns-else-end-out
returns-else-end-out c = adds_only_counted _ _ _ _ refl refl c.requires.2 c.if-end-out.false
