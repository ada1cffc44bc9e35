use Prim.Native.Nat.{ℕ, ◌%◌, ◌^◌}
use mathlib.Core.Bool.{true}
use mathlib.Core.List.{List}
use Rattle.rules.specs.Bytes.{le_at, swap16}
use lib.Bits.{bit_and}
use mathlib.Core.Path.{◌≡◌, ap, sym, ◌∙◌}
use lib.Bits.{and_mask}
use Rattle.rules.specs.Frame.{is_tagged, frame_vlan}
use Rattle.headers.proofs.frame_vlan.Goals as goal

-- the rule's case, on plain values
tagged : (v : ℕ) (f : List ℕ) → is_tagged f ≡ true → v ≡ swap16 (le_at 2 f 14) → bit_and v 0xfff ≡ frame_vlan f
unfolding frame_vlan
tagged v f p e = simp p (and_mask v 12 ∙ ap (λ (x : ℕ). x % 2 ^ 12) e)

pub returns-then-is_tagged : goal.returns-then-is_tagged
returns-then-is_tagged c = tagged c.tag.result c.args.f.now (sym c.is_tagged.ensures ∙ c.if-is_tagged.true) c.tag.ensures

pub returns : goal.returns
unfolding frame_vlan
returns c = simp (sym c.is_tagged.ensures ∙ c.if-is_tagged.false)
