-- `copies::send` meets its contract.
-- Assumes nothing.
use mathlib.Core.Path.{sym, ◌∙◌}
use Rattle.copies.proofs.Copying.{kept_in, sends_kept, sends_not}
use Rattle.copies.proofs.send.Goals as goal

pub returns-then-is_kept : goal.returns-then-is_kept
returns-then-is_kept c =
    sends_kept (rw (← kept_in) (sym c.is_kept.ensures ∙ c.if-is_kept.true)) c.write.ensures

pub returns : goal.returns
returns c = sends_not (rw (← kept_in) (sym c.is_kept.ensures ∙ c.if-is_kept.false))
