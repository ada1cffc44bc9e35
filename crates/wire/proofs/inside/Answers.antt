use Rattle.rules.specs.Bytes.{inside}
use Rattle.std.proofs.Common.{◌+◌, ap, sym, length, arith}
use lib.Dec.{leb}
use borrow.Author.Tests.{lt-leb}
use Rattle.wire.proofs.inside.Goals as goal

pub returns-in-Some : goal.returns-in-Some
unfolding inside
returns-in-Some c = let h = c.in-Some.ensures in ap (λ end. leb end (length c.args.s.now)) h.1

pub returns-in-None : goal.returns-in-None
unfolding inside
returns-in-None c =
    let a = c.args in
    let h = c.in-None.ensures in
    sym (lt-leb (a.at + a.n) (length a.s.now) (omega (arith, h)))
