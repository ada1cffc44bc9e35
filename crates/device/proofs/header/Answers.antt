use Rattle.device.proofs.Outcome.{header_short, header_done}
use Rattle.device.proofs.header.Goals as goal

pub returns-then-buffer-lt6 : goal.returns-then-buffer-lt6
returns-then-buffer-lt6 c = λ a memory frame list. header_short _ a memory frame _ list c.if-buffer-lt6.true

pub returns : goal.returns
returns c =
    let w = rw c.terms_of.ensures at c.header-written.ensures in
    λ a memory frame list. rw c.quiet.ensures (header_done _ a memory frame _ list _ _ c.if-buffer-lt6.false w)
