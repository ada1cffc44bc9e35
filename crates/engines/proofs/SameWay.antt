-- A frame takes the same way by both engines: the best match of a table is one and the same in any order of storage, and it is the first one of
-- the device's order. A frame's way asks for nothing but the five tests of the tables, each of which takes flows of its own table alone.
-- Assumes nothing.
use Prim.Native.Nat.{ℕ}
use mathlib.Core.Bool.{Bool, true}
use mathlib.Core.Option.{Option, none, some}
use mathlib.Core.Logic.{inl, inr}
use mathlib.Core.Path.{◌≡◌, refl, sym, ◌∙◌}
use mathlib.Core.List.{List}
use borrow.Author.Tests.{eqb-true}
use Rattle.rules.specs.Keyed.{Rising}
use Rattle.rules.specs.Tables.{cookie_of}
use Rattle.rules.specs.Frame.{Decider, Headers, headers_of, matches0, matches10, matches20, matches30, matches50, from_table50, from_table30, after_table20, from_table20, after_table10, from_table10, way_of, way, outputs}
use Rattle.rules.specs.Engine.{Order, decides_best, decides_first}
use Rattle.rules.specs.declared.FlowEntry.{FlowEntry}
use Rattle.rules.specs.declared.GroupEntry.{GroupEntry}
use Rattle.rules.specs.declared.Registers.{Registers}
use Rattle.rules.proofs.Cases.{and_left}
use Rattle.rules.proofs.Deciding.{deciding_any_order}
use Rattle.engines.specs.Claim.{SameFlows}
use Rattle.engines.specs.Kept.{Kept}
use Rattle.engines.proofs.Unordered.{Distinct, members_to, members_from}
use Rattle.engines.proofs.Decides.{kept_decides, IsTable}

-- ---- Two deciders that give the same in the five tables

module _ (d d' : Decider) (port : ℕ) (h : Headers)
    (same0 : d 0 (matches0 port) ≡ d' 0 (matches0 port))
    (same10 : d 10 (matches10 port h.vlan) ≡ d' 10 (matches10 port h.vlan))
    (same20 : (vlan : ℕ) → d 20 (matches20 port h vlan) ≡ d' 20 (matches20 port h vlan))
    (same30 : d 30 (matches30 h) ≡ d' 30 (matches30 h))
    (same50 : (vlan : ℕ) → d 50 (matches50 vlan h.mac) ≡ d' 50 (matches50 vlan h.mac)) where
  after20 : (vlan : ℕ) (e : Option FlowEntry) → after_table20 d h vlan e ≡ after_table20 d' h vlan e
  unfolding after_table20 from_table50 from_table30
  after20 vlan none = rw (same50 vlan) refl
  after20 vlan (some e) = rw same30 refl

  from20 : (vlan : ℕ) → from_table20 d port h vlan ≡ from_table20 d' port h vlan
  unfolding from_table20
  from20 vlan = rw (same20 vlan) (after20 vlan (d' 20 (matches20 port h vlan)))

  after10 : (e : Option FlowEntry) → after_table10 d port h e ≡ after_table10 d' port h e
  unfolding after_table10
  after10 none = refl
  after10 (some e) = rw (from20 _) refl

  same_way_of : way_of d port h ≡ way_of d' port h
  unfolding way_of from_table10
  same_way_of = rw (same0, same10, after10 (d' 10 (matches10 port h.vlan))) refl

-- ---- What the device's order gives

module _ {l l' : List FlowEntry} {o : Order} (same : SameFlows l l') (d : Distinct l) (s : Rising cookie_of l') (k : Kept l' o) where
  decides_same : (table : ℕ) (m : FlowEntry → Bool) → IsTable table → ((e : FlowEntry) → m e ≡ true → e.table ≡ table)
      → decides_best l table m ≡ decides_first l' o table m
  unfolding decides_best
  decides_same table m t own =
      sym (deciding_any_order m l' l s (members_from same s) (members_to same d)) ∙ sym (kept_decides l' o table m s k t own)

  way_same : (port : ℕ) (h : Headers) → way_of (decides_best l) port h ≡ way_of (decides_first l' o) port h
  unfolding matches0 matches10 matches20 matches30 matches50
  way_same port h =
      same_way_of (decides_best l) (decides_first l' o) port h
      (decides_same 0 (matches0 port) (inl refl) (λ e p. eqb-true _ _ (and_left _ _ p)))
      (decides_same 10 (matches10 port h.vlan) (inr (inl refl)) (λ e p. eqb-true _ _ (and_left _ _ (and_left _ _ p))))
      (λ vlan. decides_same 20 (matches20 port h vlan) (inr (inr (inl refl))) (λ e p. eqb-true _ _ (and_left _ _ (and_left _ _ (and_left _ _ (and_left _ _ p))))))
      (decides_same 30 (matches30 h) (inr (inr (inr (inl refl)))) (λ e p. eqb-true _ _ (and_left _ _ (and_left _ _ p))))
      (λ vlan. decides_same 50 (matches50 vlan h.mac) (inr (inr (inr (inr refl)))) (λ e p. eqb-true _ _ (and_left _ _ (and_left _ _ p))))

  pub outputs_same : (r : Registers) (g : List GroupEntry) (port : ℕ) (f : List ℕ)
      → outputs r (decides_best l) g port f ≡ outputs r (decides_first l' o) g port f
  unfolding outputs way
  outputs_same r g port f = rw (way_same port (headers_of f)) refl
