-- Branches, as all definitions write them.
use Rattle.std.specs.Prelude.{ℕ, Bool, true, false, List, ◌∷◌}

-- the first where the test holds, else the second
abbrev pub choose {ℓ} : {A : Type ℓ} → Bool → A → A → A
choose true a b = a
choose false a b = b

-- A refusal: the answer number n where its condition holds, else what the conditions after it give. A chain of these that ends in
-- 0 is a call's answer. Where its numbers rise, "the lower number" is given, and each "exactly on its condition".
abbrev pub refuse : Bool → ℕ → ℕ → ℕ
refuse condition n rest = choose condition n rest

-- An entry in front of a list where the test holds. The list stands there once, so that a list built of these is computed in as many
-- steps as it has tests.
abbrev pub prepend : {A : Type 0} → Bool → A → List A → List A
prepend true a l = a ∷ l
prepend false a l = l
