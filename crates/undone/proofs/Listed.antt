-- The fixed list carried out: one run of one command leads from tables to tables, by induction on its entries, and the six runs follow
-- one another. Of the commands it takes what each does on an admitted entry's payload.
-- Assumes nothing.
use Prim.Native.Nat.{ℕ, ◌≤◌}
use mathlib.Core.Bool.{Bool, true, false}
use mathlib.Core.Path.{◌≡◌, refl, sym, ap, ◌∙◌}
use mathlib.Core.List.{List, [], ◌∷◌, ◌++◌, map}
use lib.ListN.{length}
use Rattle.rules.specs.Limits.{max_flows, max_groups, max_payload}
use Rattle.rules.specs.Answers.{code}
use Rattle.rules.specs.Keyed.{holds, find, insert, replace, remove}
use Rattle.rules.specs.Tables.{Tables, cookie_of, id_of, add_status, held_status, with_flows, with_groups, executed, execute}
use Rattle.rules.specs.Undo.{same_flow, same_group, picks, picked, flow_payload, group_payload, flow_run, group_run, payloads}
use Rattle.rules.specs.declared.Terms.{Terms}
use Rattle.rules.specs.declared.Status.{Status}
use Rattle.rules.specs.declared.Status.TheVariants.{Ok}
use Rattle.rules.specs.declared.FlowEntry.{FlowEntry}
use Rattle.rules.specs.declared.GroupEntry.{GroupEntry}
use Rattle.rules.proofs.Cases.{by_test}
use Rattle.rules.proofs.Tables.{Good, add_done}
use Rattle.encoded.specs.Admitted.{FlowAdmitted, GroupAdmitted, Each, Admitted}
use Rattle.undone.specs.Carried.{carried_all, AllOk}
use Rattle.undone.proofs.Alike.{same_flow_lem, same_group_lem}
use Rattle.undone.proofs.Runs.{after, AtEach, Held, Fits, removed, dels, mods, adds, deleted, modified, Returned, returned}

-- ---- What each entry of a list has

module _ {A : Type 0} (P : A → Type 0) where
  each_picked : (key : A → ℕ) (same : A → A → Bool) (there : Bool) (other l : List A) → Each P l → Each P (picked key same there other l)
  unfolding picked
  each_picked key same there other [] h = tt
  each_picked key same there other (e ∷ es) h =
      by_test (picks key same there (find key (key e) other) e)
      (λ p. rw p (h.0, each_picked key same there other es h.1))
      (λ p. rw p (each_picked key same there other es h.1))

  each_append : (l m : List A) → Each P l → Each P m → Each P (l ++ m)
  each_append [] m h k = k
  each_append (e ∷ es) m h k = (h.0, each_append es m h.1 k)

each_map : {A B : Type 0} (P : A → Type 0) (Q : B → Type 0) (f : A → B) → ((e : A) → P e → Q (f e)) → (l : List A) → Each P l → Each Q (map f l)
each_map P Q f g [] h = tt
each_map P Q f g (e ∷ es) h = (g e h.0, each_map P Q f g es h.1)

-- ---- Payloads that all complete OK, from tables to tables

abbrev Leads : Terms → List (List ℕ) → Tables → Tables → Type 0
Leads terms ps t u = AllOk terms ps t × (carried_all terms ps t ≡ u)

-- their last tables by another name; and one list of payloads after another
leads_to : (terms : Terms) (ps : List (List ℕ)) (t u v : Tables) → Leads terms ps t u → u ≡ v → Leads terms ps t v
leads_to terms ps t u v h e = (h.0, h.1 ∙ e)

leads_on : (terms : Terms) (ps qs : List (List ℕ)) (t u v : Tables) → Leads terms ps t u → Leads terms qs u v → Leads terms (ps ++ qs) t v
unfolding carried_all
leads_on terms [] qs t u v h k = rw h.1 k
leads_on terms (p ∷ ps) qs t u v h k =
    let r = leads_on terms ps qs (execute terms p t).tables u v (h.0.1, h.1) k in
    ((h.0.0, r.0), r.1)

-- a payload whose status is OK, before others
leads_first : (terms : Terms) (p : List ℕ) (ps : List (List ℕ)) (t u v : Tables) (e : Status)
    → execute terms p t ≡ executed t e u → e ≡ Ok → Leads terms ps u v → Leads terms (p ∷ ps) t v
unfolding carried_all executed code
leads_first terms p ps t u v e h ok k = rw (h, ok) ((refl, k.0), k.1)

-- ---- One table of the two, and a run of one command on it

-- reading what was put, putting twice, putting back what is there; the other table stays as it is
record Part {A : Type 0} (get : Tables → List A) (put : Tables → List A → Tables) : Type 0 where
  get_put : (t : Tables) (l : List A) → get (put t l) ≡ l
  put_put : (t : Tables) (l m : List A) → put (put t l) m ≡ put t m
  put_get : (t : Tables) → put t (get t) ≡ t

flows_part : Part (λ t. t.flows) with_flows
unfolding with_flows
flows_part = record { get_put = λ t l. refl; put_put = λ t l m. refl; put_get = λ t. refl }

groups_part : Part (λ t. t.groups) with_groups
unfolding with_groups
groups_part = record { get_put = λ t l. refl; put_put = λ t l m. refl; put_get = λ t. refl }

module _ (terms : Terms) {A : Type 0} (get : Tables → List A) (put : Tables → List A → Tables) (P : A → Type 0) where
  -- what the payloads of one command do, where P holds of the entry
  abbrev Does : (A → List ℕ) → (A → List A → Status) → (A → List A → List A) → Type 0
  Does pay status change = (e : A) → P e → (t : Tables) → execute terms (pay e) t ≡ executed t (status e (get t)) (put t (change e (get t)))

  -- where Q, which OK asks, holds at each step
  run_leads : Part get put → (pay : A → List ℕ) (status : A → List A → Status) (change : A → List A → List A) → Does pay status change
      → (Q : A → List A → Type 0) → ((e : A) (l : List A) → Q e l → status e l ≡ Ok)
      → (es l : List A) → Each P es → AtEach Q change es l → (t : Tables) → get t ≡ l → Leads terms (map pay es) t (put t (after change es l))
  unfolding carried_all after
  run_leads part pay status change does Q ok [] l a h t g = (tt, rw (← g) (sym (part.put_get t)))
  run_leads part pay status change does Q ok (e ∷ es) l a h t g =
      let u = put t (change e l) in
      let r = run_leads part pay status change does Q ok es (change e l) a.1 h.1 u (part.get_put t (change e l)) in
      leads_first terms (pay e) (map pay es) t u (put t (after change es (change e l))) (status e l)
      (rw (← g) (does e a.0 t)) (ok e l h.0) (leads_to terms (map pay es) u _ _ r (part.put_put t (change e l) (after change es (change e l))))

-- ---- The three runs on one table

module _ {A : Type 0} (key : A → ℕ) where
  -- the statuses of del and mod, and of add
  abbrev held_of : A → List A → Status
  held_of e l = held_status (holds key) (key e) l

  abbrev add_of : ℕ → A → List A → Status
  add_of limit e l = add_status (holds key) limit (key e) l

  held_done : (e : A) (l : List A) → Held key true e l → held_of e l ≡ Ok
  unfolding held_status
  held_done e l h = simp h

  fits_done : (limit : ℕ) (e : A) (l : List A) → Fits key limit e l → add_of limit e l ≡ Ok
  fits_done limit e l h = add_done key (key e) l limit h.0 h.1

module _ (terms : Terms) {A : Type 0} (get : Tables → List A) (put : Tables → List A → Tables) (P : A → Type 0) (key : A → ℕ) (same : A → A → Bool) (limit : ℕ)
    (pay : ℕ → A → List ℕ) (del modify add : ℕ) (now earlier : List A) where
  -- each from tables where this one is as the run before left it
  record ThreeRuns : Type 0 where
    dels_lead : (t : Tables) → get t ≡ now → Leads terms (map (pay del) (dels key same now earlier)) t (put t (deleted key same now earlier))
    mods_lead : (t : Tables) → get t ≡ deleted key same now earlier
        → Leads terms (map (pay modify) (mods key same now earlier)) t (put t (modified key same now earlier))
    adds_lead : (t : Tables) → get t ≡ modified key same now earlier → Leads terms (map (pay add) (adds key same now earlier)) t (put t earlier)

  runs_lead : Part get put → Does terms get put P (pay del) (held_of key) (removed key) → Does terms get put P (pay modify) (held_of key) (replace key)
      → Does terms get put P (pay add) (add_of key limit) (insert key) → Returned key same now earlier limit → Each P now → Each P earlier → ThreeRuns
  runs_lead part does_del does_mod does_add r n e =
      record {
        dels_lead = run_leads terms get put P part (pay del) (held_of key) (removed key) does_del (Held key true) (held_done key)
            (dels key same now earlier) now (each_picked P key same false earlier now n) r.dels_held;
        mods_lead = run_leads terms get put P part (pay modify) (held_of key) (replace key) does_mod (Held key true) (held_done key)
            (mods key same now earlier) (deleted key same now earlier) (each_picked P key same true now earlier e) r.mods_held;
        adds_lead = λ t g. leads_to terms _ t _ _
            (run_leads terms get put P part (pay add) (add_of key limit) (insert key) does_add (Fits key limit) (fits_done key limit)
            (adds key same now earlier) (modified key same now earlier) (each_picked P key same false now earlier e) r.adds_fit t g)
            (ap (put t) r.returns);
      }

-- ---- The list

module _ (terms : Terms)
    (flow_add : (e : FlowEntry) → FlowAdmitted terms.ports e → (t : Tables)
    → execute terms (flow_payload 3 e) t ≡ executed t (add_status (holds cookie_of) max_flows e.cookie t.flows) (with_flows t (insert cookie_of e t.flows)))
    (flow_mod : (e : FlowEntry) → FlowAdmitted terms.ports e → (t : Tables)
    → execute terms (flow_payload 4 e) t ≡ executed t (held_status (holds cookie_of) e.cookie t.flows) (with_flows t (replace cookie_of e t.flows)))
    (flow_del : (e : FlowEntry) → FlowAdmitted terms.ports e → (t : Tables)
    → execute terms (flow_payload 5 e) t ≡ executed t (held_status (holds cookie_of) e.cookie t.flows) (with_flows t (remove cookie_of e.cookie t.flows)))
    (group_add : (e : GroupEntry) → GroupAdmitted terms.ports e → (t : Tables)
    → execute terms (group_payload 7 e) t ≡ executed t (add_status (holds id_of) max_groups e.id t.groups) (with_groups t (insert id_of e t.groups)))
    (group_mod : (e : GroupEntry) → GroupAdmitted terms.ports e → (t : Tables)
    → execute terms (group_payload 8 e) t ≡ executed t (held_status (holds id_of) e.id t.groups) (with_groups t (replace id_of e t.groups)))
    (group_del : (e : GroupEntry) → GroupAdmitted terms.ports e → (t : Tables)
    → execute terms (group_payload 9 e) t ≡ executed t (held_status (holds id_of) e.id t.groups) (with_groups t (remove id_of e.id t.groups))) where
  -- EVERY PAYLOAD COMPLETES OK, AND THE TABLES AFTER THEM ARE THE EARLIER ONES
  pub gives_back : (earlier now : Tables) → Good earlier → Good now → Admitted terms.ports earlier → Admitted terms.ports now
      → AllOk terms (payloads earlier now) now × (carried_all terms (payloads earlier now) now ≡ earlier)
  unfolding payloads flow_run group_run with_flows with_groups
  gives_back earlier now ge gn ae an =
      let flows =
      runs_lead terms (λ t. t.flows) with_flows (FlowAdmitted terms.ports) cookie_of same_flow max_flows flow_payload 5 4 3 now.flows earlier.flows
      flows_part flow_del flow_mod flow_add
      (returned cookie_of same_flow now.flows earlier.flows gn.flows_rise ge.flows_rise max_flows same_flow_lem ge.flows_fit) an.flows_are ae.flows_are in
      let groups =
      runs_lead terms (λ t. t.groups) with_groups (GroupAdmitted terms.ports) id_of same_group max_groups group_payload 9 8 7 now.groups earlier.groups
      groups_part group_del group_mod group_add
      (returned id_of same_group now.groups earlier.groups gn.groups_rise ge.groups_rise max_groups same_group_lem ge.groups_fit) an.groups_are ae.groups_are in
      leads_on terms _ _ _ _ _ (flows.dels_lead now refl)
      (leads_on terms _ _ _ _ _ (groups.dels_lead _ refl)
      (leads_on terms _ _ _ _ _ (flows.mods_lead _ refl)
      (leads_on terms _ _ _ _ _ (groups.mods_lead _ refl)
      (leads_on terms _ _ _ _ _ (flows.adds_lead _ refl) (groups.adds_lead _ refl)))))

-- ---- No payload is longer than a device takes

-- a record, so that it tells which list it is about
record Short (ps : List (List ℕ)) : Type 0 where
  each : Each (λ p. length p ≤ max_payload) ps

short_on : {ps qs : List (List ℕ)} → Short ps → Short qs → Short (ps ++ qs)
short_on {ps} {qs} h k = record { each = each_append (λ p. length p ≤ max_payload) ps qs h.each k.each }

run_short : {A : Type 0} (P : A → Type 0) (key : A → ℕ) (same : A → A → Bool) (pay : A → List ℕ) → ((e : A) → P e → length (pay e) ≤ max_payload)
    → (there : Bool) (other l : List A) → Each P l → Short (map pay (picked key same there other l))
run_short P key same pay short there other l h =
    record { each = each_map P (λ p. length p ≤ max_payload) pay short (picked key same there other l) (each_picked P key same there other l h) }

module _ (ports : ℕ) (flow_short : (c : ℕ) (e : FlowEntry) → length (flow_payload c e) ≤ max_payload)
    (group_short : (c : ℕ) (e : GroupEntry) → GroupAdmitted ports e → length (group_payload c e) ≤ max_payload) where
  flows_short : (c : ℕ) (there : Bool) (other l : List FlowEntry) → Each (FlowAdmitted ports) l → Short (flow_run c there other l)
  unfolding flow_run
  flows_short c = run_short (FlowAdmitted ports) cookie_of same_flow (flow_payload c) (λ e a. flow_short c e)

  groups_short : (c : ℕ) (there : Bool) (other l : List GroupEntry) → Each (GroupAdmitted ports) l → Short (group_run c there other l)
  unfolding group_run
  groups_short c = run_short (GroupAdmitted ports) id_of same_group (group_payload c) (group_short c)

  pub all_short : (earlier now : Tables) → Admitted ports earlier → Admitted ports now → Each (λ p. length p ≤ max_payload) (payloads earlier now)
  unfolding payloads
  all_short earlier now ae an =
      let all = short_on (flows_short 5 false earlier.flows now.flows an.flows_are)
      (short_on (groups_short 9 false earlier.groups now.groups an.groups_are)
      (short_on (flows_short 4 true now.flows earlier.flows ae.flows_are)
      (short_on (groups_short 8 true now.groups earlier.groups ae.groups_are)
      (short_on (flows_short 3 false now.flows earlier.flows ae.flows_are)
      (groups_short 7 false now.groups earlier.groups ae.groups_are))))) in
      all.each
