-- The store's command, on the flow that the row holds.
-- Assumes nothing.
use Rattle.plain.proofs.plain_change.Goals as goal

pub returns : goal.returns
returns c =
    record { status = c.change-done.result.status; code_is = c.code.ensures; does = rw c.entry_of.ensures at c.change-done.ensures }
