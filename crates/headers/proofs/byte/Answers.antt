use mathlib.Core.Path.{sym}
use lib.ListN.{get_or-eq_default}
use Rattle.headers.proofs.byte.Goals as goal

pub returns-else-i-f : goal.returns-else-i-f
returns-else-i-f c = sym (get_or-eq_default c.args.f.now 0 c.if-i-f.false)
