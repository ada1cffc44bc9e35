-- A part of the list is stored over.
-- Assumes nothing.
use Prim.Native.Nat.{◌+◌, ◌-◌, ◌*◌}
use mathlib.Core.Path.{◌≡◌, refl}
use Rattle.std.proofs.lemmas.List.{drop-drop}
use native.Mathlib.Omega.{arith}
use lib.ListN.{length}
use borrow.Author.Rules.{rules}
use Rattle.rules.specs.Bytes.{splice}
use Rattle.copies.proofs.put.Goals as goal

pub returns : goal.returns
unfolding splice
returns c =
    let k : 9 * c.args.n + 9 - 9 * c.args.n ≡ 9 = omega arith in
    let l : length c.args.copy ≡ 9 = search rules in
    rw (k, l, c.copy_from_slice.ensures.after, drop-drop 9 (9 * c.args.n) c.args.list.now) refl
