-- Each return is a law of Scanning on plain values.
-- Assumes nothing.
use mathlib.Core.Path.{sym, ◌∙◌}
use Rattle.plain.proofs.Scanning.{better_taken, better_kept, better_passed}
use Rattle.plain.proofs.scan.better.Goals as goal

pub returns-then-is_taken : goal.returns-then-is_taken
returns-then-is_taken c =
    better_taken (sym c.matches.ensures ∙ c.if-matches.true) c.flow-e.ensures c.flow-b.ensures c.requires.0 (sym c.is_taken.ensures ∙ c.if-is_taken.true)

pub returns-else-is_taken : goal.returns-else-is_taken
returns-else-is_taken c =
    better_kept (sym c.matches.ensures ∙ c.if-matches.true) c.flow-e.ensures c.flow-b.ensures c.requires.1 (sym c.is_taken.ensures ∙ c.if-is_taken.false)

pub returns-else-matches : goal.returns-else-matches
returns-else-matches c = better_passed c.requires.1 (sym c.matches.ensures ∙ c.if-matches.false)
