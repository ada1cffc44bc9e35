-- The runs of flows and of groups are runs over any table (Runs), and how many entries their tables have at most.
-- Assumes nothing.
use Prim.Native.Nat.{ℕ, ◌≤◌}
use mathlib.Core.Bool.{Bool, true, false}
use mathlib.Core.Path.{◌≡◌, refl, sym, ◌∙◌}
use mathlib.Core.List.{List, [], ◌∷◌, ◌++◌}
use native.Mathlib.Omega.{arith}
use lib.ListN.{length, take, length-map, length-take}
use Rattle.rules.specs.Keyed.{find}
use Rattle.rules.specs.Places.{places, live}
use Rattle.rules.specs.Rows.{entry_in, group_in, beside}
use Rattle.rules.specs.Tables.{cookie_of, id_of, live_flows, live_groups}
use Rattle.rules.specs.Undo.{picks, picked, same_flow, same_group, flow_payload, group_payload, flow_run, group_run}
use Rattle.rules.specs.declared.FlowEntry.{FlowEntry}
use Rattle.rules.specs.declared.GroupEntry.{GroupEntry}
use Rattle.listing.specs.Listing.{Adds, Lists}
use Rattle.listing.specs.declared.Listed.{Listed}
use Rattle.listing.proofs.Lists.{lists_none, lists_one}
use Rattle.listing.proofs.Runs.{run, run_append, run_picked, run_passed}

-- ---- Lengths

live_few : {R A : Type 0} (read : R → A) (count : ℕ) (rows : List R) → length (live read (places count rows)) ≤ length rows
unfolding live
live_few read count rows = omega (arith, length-map (take count rows) read, length-take count rows)

beside_few : (hs ms : List (List ℕ)) → length (beside hs ms) ≤ length hs
beside_few [] ms = omega arith
beside_few (h ∷ hs) [] = omega arith
beside_few (h ∷ hs) (m ∷ ms) = omega (arith, beside_few hs ms)

pub flows_few : (count : ℕ) (rows : List (List ℕ)) → length rows ≡ 256 → length (live_flows count rows) ≤ 256
flows_few count rows z = omega (arith, live_few entry_in count rows)

pub groups_few : (count : ℕ) (hs ms : List (List ℕ)) → length hs ≡ 128 → length (live_groups count hs ms) ≤ 128
groups_few count hs ms z = omega (arith, live_few group_in count (beside hs ms), beside_few hs ms)

-- ---- Runs

-- what is listed of one entry, by whether it is picked
module _ {A : Type 0} (key : A → ℕ) (same : A → A → Bool) (payload : A → List ℕ) (there : Bool) (other : List A) where
  entry_listed : {r so_far : Listed} {after before : List ℕ} (e : A) → picks key same there (find key (key e) other) e ≡ true
      → Adds r so_far after (payload e) before → Lists r so_far after (run key same payload there other (e ∷ [])) 1 before
  entry_listed e p a = rw (run_picked key same payload there other e p) (lists_one a)

  entry_passed : (r : Listed) (s : List ℕ) (e : A) → picks key same there (find key (key e) other) e ≡ false
      → Lists r r s (run key same payload there other (e ∷ [])) 1 s
  entry_passed r s e p = rw (run_passed key same payload there other e p) (lists_none r 1 s)

module _ (command : ℕ) (there : Bool) (other : List FlowEntry) where
  pub flow_run_nil : flow_run command there other [] ≡ []
  unfolding flow_run picked
  flow_run_nil = refl

  pub flow_run_append : (a b : List FlowEntry) → flow_run command there other (a ++ b) ≡ flow_run command there other a ++ flow_run command there other b
  unfolding flow_run
  flow_run_append a b = run_append cookie_of same_flow (flow_payload command) there other a b

  module _ {b : Bool} (e : FlowEntry) (is : b ≡ picks cookie_of same_flow there (find cookie_of (cookie_of e) other) e) where
    pub flow_listed : {r so_far : Listed} {after before : List ℕ} → b ≡ true → Adds r so_far after (flow_payload command e) before
        → Lists r so_far after (flow_run command there other (e ∷ [])) 1 before
    unfolding flow_run
    flow_listed p a = entry_listed cookie_of same_flow (flow_payload command) there other e (sym is ∙ p) a

    pub flow_passed : (r : Listed) (s : List ℕ) → b ≡ false → Lists r r s (flow_run command there other (e ∷ [])) 1 s
    unfolding flow_run
    flow_passed r s p = entry_passed cookie_of same_flow (flow_payload command) there other r s e (sym is ∙ p)

module _ (command : ℕ) (there : Bool) (other : List GroupEntry) where
  pub group_run_nil : group_run command there other [] ≡ []
  unfolding group_run picked
  group_run_nil = refl

  pub group_run_append : (a b : List GroupEntry) → group_run command there other (a ++ b) ≡ group_run command there other a ++ group_run command there other b
  unfolding group_run
  group_run_append a b = run_append id_of same_group (group_payload command) there other a b

  module _ {b : Bool} (e : GroupEntry) (is : b ≡ picks id_of same_group there (find id_of (id_of e) other) e) where
    pub group_listed : {r so_far : Listed} {after before : List ℕ} → b ≡ true → Adds r so_far after (group_payload command e) before
        → Lists r so_far after (group_run command there other (e ∷ [])) 1 before
    unfolding group_run
    group_listed p a = entry_listed id_of same_group (group_payload command) there other e (sym is ∙ p) a

    pub group_passed : (r : Listed) (s : List ℕ) → b ≡ false → Lists r r s (group_run command there other (e ∷ [])) 1 s
    unfolding group_run
    group_passed r s p = entry_passed id_of same_group (group_payload command) there other r s e (sym is ∙ p)
