-- Table by table, the tests of the code are those of the rules, on plain values: f stands in the place, and e is f.
-- Assumes nothing.
use Prim.Native.Nat.{ℕ}
use mathlib.Core.Bool.{not, ◌&&◌, ◌||◌}
use mathlib.Core.Path.{◌≡◌, sym, ap, ◌∙◌}
use lib.Bits.{bit_and}
use lib.Dec.{eqb}
use borrow.Author.Tests.{eq-eqb, ne_eqb}
use Rattle.rules.specs.Frame.{matches0, matches10, matches20, matches30, matches50}
use Rattle.rules.specs.declared.FlowEntry.{FlowEntry}
use Rattle.rules.proofs.Cases.{by_eq}
use Rattle.deciding.specs.Way.{headers_in, agrees, matches_in}
use Rattle.deciding.specs.declared.Headers.{Headers}
use Rattle.deciding.proofs.Search.{other_table}
use Rattle.deciding.proofs.matches.Goals as goal

module _ (f : FlowEntry) (table port : ℕ) (h : Headers) (s : f.table ≡ table) where
  in_50 : table ≡ 50 → eqb f.vlan_id h.vlan && (not f.has_mac || eqb f.dst_mac h.mac) ≡ matches_in table port (headers_in h) f
  unfolding matches_in headers_in matches50
  in_50 p = simp (eq-eqb table 50 p, eq-eqb f.table 50 (s ∙ p))

  module _ (a : table ≡ 50 → ⊥) where
    in_30 : table ≡ 30 → eqb f.ethertype h.ethertype && agrees h f ≡ matches_in table port (headers_in h) f
    unfolding matches_in headers_in matches30 agrees
    in_30 p = simp (ne_eqb table 50 a, eq-eqb table 30 p, eq-eqb f.table 30 (s ∙ p))

    module _ (b : table ≡ 30 → ⊥) where
      in_20 : table ≡ 20
          → eqb f.in_pport port && eqb f.ethertype h.ethertype && eqb f.dst_mac h.mac && eqb f.vlan_id h.vlan
          ≡ matches_in table port (headers_in h) f
      unfolding matches_in headers_in matches20
      in_20 p = simp (ne_eqb table 50 a, ne_eqb table 30 b, eq-eqb table 20 p, eq-eqb f.table 20 (s ∙ p))

      module _ (c : table ≡ 20 → ⊥) (e : FlowEntry) (u : e ≡ f) where
        in_10 : table ≡ 10 → eqb e.in_pport port && eqb e.vlan_id h.vlan ≡ matches_in table port (headers_in h) f
        unfolding matches_in headers_in matches10
        in_10 p = rw u (simp (ne_eqb table 50 a, ne_eqb table 30 b, ne_eqb table 20 c, eq-eqb table 10 p, eq-eqb f.table 10 (s ∙ p)))

        in_0 : (table ≡ 10 → ⊥)
            → eqb table 0 && eqb (bit_and port e.in_pport_mask) (bit_and e.in_pport e.in_pport_mask) ≡ matches_in table port (headers_in h) f
        unfolding matches_in headers_in matches0
        in_0 d =
            rw u (by_eq table 0
            (λ z p. simp (ne_eqb table 50 a, ne_eqb table 30 b, ne_eqb table 20 c, ne_eqb table 10 d, p, eq-eqb f.table 0 (s ∙ z)))
            (λ z p. simp (ne_eqb table 50 a, ne_eqb table 30 b, ne_eqb table 20 c, ne_eqb table 10 d, p)))

pub returns-then-of-table : goal.returns-then-of-table
returns-then-of-table c = sym (other_table _ _ _ _ (λ q. c.if-of-table.true (ap (λ (f : FlowEntry). f.table) c.flow-of.ensures ∙ q)))

pub returns-then-table-eq50 : goal.returns-then-table-eq50
returns-then-table-eq50 c =
    let s = sym (ap (λ (f : FlowEntry). f.table) c.flow-of.ensures) ∙ c.if-of-table.false in
    c.is_bridged.ensures ∙ in_50 _ _ _ _ s c.if-table-eq50.true

pub returns-then-table-eq30 : goal.returns-then-table-eq30
returns-then-table-eq30 c =
    let s = sym (ap (λ (f : FlowEntry). f.table) c.flow-of.ensures) ∙ c.if-of-table.false in
    c.is_routed.ensures ∙ in_30 _ _ _ _ s c.if-table-eq50.false c.if-table-eq30.true

pub returns-then-table-eq20 : goal.returns-then-table-eq20
returns-then-table-eq20 c =
    let s = sym (ap (λ (f : FlowEntry). f.table) c.flow-of.ensures) ∙ c.if-of-table.false in
    c.is_terminated.ensures ∙ in_20 _ _ _ _ s c.if-table-eq50.false c.if-table-eq30.false c.if-table-eq20.true

pub returns-then-table-eq10 : goal.returns-then-table-eq10
returns-then-table-eq10 c =
    let s = sym (ap (λ (f : FlowEntry). f.table) c.flow-of.ensures) ∙ c.if-of-table.false in
    in_10 _ _ _ _ s c.if-table-eq50.false c.if-table-eq30.false c.if-table-eq20.false _ c.flow-e.ensures c.if-table-eq10.true

pub returns : goal.returns
returns c =
    let s = sym (ap (λ (f : FlowEntry). f.table) c.flow-of.ensures) ∙ c.if-of-table.false in
    in_0 _ _ _ _ s c.if-table-eq50.false c.if-table-eq30.false c.if-table-eq20.false _ c.flow-e.ensures c.if-table-eq10.false
