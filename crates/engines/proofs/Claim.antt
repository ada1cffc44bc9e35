-- Request 2026-05, proved: one induction over the list of calls, by the law of one call (Step).
-- Assumes nothing.
use Prim.Native.Nat.{ℕ}
use mathlib.Core.List.{List, [], ◌∷◌}
use Rattle.rules.specs.Engine.{plain, ordered}
use Rattle.rules.specs.Switch.{Switch, fresh_switch, step_by}
use Rattle.history.specs.Trace.{Call, step_at, final}
use Rattle.engines.specs.Kept.{Kept}
use Rattle.engines.specs.Claim.{SameCalls, EnginesAgree}
use Rattle.engines.proofs.Step.{Alike, step_agrees, fresh_alike}

-- switches that are alike give the same, call after call, and the device's flows stay in order
same_calls : (s s' : Switch) → Alike s s' → (cs : List Call) → SameCalls s s' cs
same_calls s s' h [] = tt
same_calls s s' h (c ∷ cs) =
    let x = step_agrees s s' h c.borrowed c.request in
    (x.same, same_calls (step_by plain s c.borrowed c.request).switch (step_by ordered s' c.borrowed c.request).switch x.alike cs)

kept_always : (s s' : Switch) → Alike s s' → (cs : List Call) → Kept (final s' cs).tables.flows (final s' cs).order
unfolding final step_at
kept_always s s' h [] = h.tables_are.kept
kept_always s s' h (c ∷ cs) = kept_always (step_by plain s c.borrowed c.request).switch (step_by ordered s' c.borrowed c.request).switch (step_agrees s s' h c.borrowed c.request).alike cs

-- ---- THE THEOREM

-- for every port count, every switch ID and every list of calls
pub engines_agree : (ports id : ℕ) (calls : List Call) → EnginesAgree ports id calls
engines_agree ports id calls =
    let s = fresh_switch ports id in
    let h = fresh_alike ports id in
    record { same = same_calls s s h calls; in_order = kept_always s s h calls }
