use Rattle.std.proofs.Common.{rules, tests}
use Rattle.std.proofs.lemmas.Iterator.Consumers.{nth_from_yields_List}
use Rattle.std.proofs.lemmas.Iterator.Splits.{YieldsList-from_slice_split}
use lib.Dec.{eqb}
use Prim.Native.Nat.{ℕ}
use mathlib.Core.List.{List}
use mathlib.Core.Path.{◌≡◌, ◌∙◌}
use denote.Ref.{Bor}
use Rattle.std.specs.Option.{option_map}
use Rattle.std.specs.List.{slice_split, slice_get}
use Rattle.text.proofs.Laws.{part_given, word_part}
use Rattle.text.proofs.word.Goals as goal

pub returns : goal.returns
returns c =
    let e : option_map (λ (x : Bor (List ℕ)). x.now) c.nth.result ≡ slice_get (slice_split (λ b. eqb b 32) c.args.s.now) c.args.k = nth_from_yields_List _ _ c.args.k c.nth.ensures.ran (YieldsList-from_slice_split _ (λ b. eqb b 32) c.args.s.now c.split.ensures.rest c.split.ensures.done c.split.ensures.closure (λ x r q k. search (rules, tests))) in
    part_given _ _ c.unwrap_or_default.ensures ∙ rw e (word_part c.args.s.now c.args.k)
