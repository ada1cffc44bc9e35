-- What a process call records of a slot, replay agrees with.
-- Assumes nothing.
use Prim.Native.Nat.{ℕ, ◌%◌, ◌≤◌}
use mathlib.Core.Bool.{Bool, true, false, not, ◌&&◌}
use mathlib.Core.Path.{◌≡◌, refl}
use mathlib.Core.List.{List, []}
use native.Mathlib.Omega.{arith}
use lib.Dec.{ltb, leb, eqb}
use lib.ListN.{length, length-take}
use borrow.Author.Tests.{ltb-false, le-leb, eq-eqb}
use Rattle.rules.specs.Choose.{choose}
use Rattle.rules.specs.Limits.{max_payload, max_flows, max_groups}
use Rattle.rules.specs.Answers.{code}
use Rattle.rules.specs.Bytes.{part, inside}
use Rattle.rules.specs.Descriptor.{Fetched, fetch}
use Rattle.rules.specs.Descriptor.Fetched.{Faulty, Payload}
use Rattle.rules.specs.Region.{walk, tlvs, end_of, well_formed, scan, lookup}
use Rattle.rules.specs.Fields.{is_at}
use Rattle.rules.specs.Decode.{refused, carried, need, flow_in, flow_key_in, group_in, group_key_in, command_in, command_type, command_info, decode}
use Rattle.rules.specs.Tables.{Tables, add_status, held_status, command_status_in, decoded_status, decoded_status_in, executed, carry_out_in, execute, execute_in, cookie_of, id_of}
use Rattle.rules.specs.Keyed.{holds}
use Rattle.rules.specs.Journal.{completion, Progress, ready, is_unread, record_agrees, tables_after, counted, record_read}
use Rattle.rules.specs.Engine.{Order}
use Rattle.rules.specs.Switch.{carry, carry_by}
use Rattle.rules.specs.declared.Terms.{Terms}
use Rattle.rules.specs.declared.Status.{Status}
use Rattle.rules.specs.declared.Status.TheVariants.{Enxio, Einval, Emsgsize, Enotsup}
use Rattle.rules.specs.declared.Flow.{Flow}
use Rattle.rules.specs.declared.Group.{Group}
use Rattle.rules.specs.declared.Command.{Command}
use Rattle.rules.specs.declared.Command.TheVariants.{FlowAdd, FlowMod, FlowDel, GroupAdd, GroupMod, GroupDel}
use Rattle.std.specs.Prelude.{Result, Ok as Carry, Err as Refused}
use Rattle.rules.specs.declared.Decoding.{Decoding}
use Rattle.rules.specs.declared.Descriptor.{Descriptor}
use Rattle.rules.proofs.Cases.{by_test}

-- ---- A payload never ends in ENXIO or EMSGSIZE: those are a descriptor's

abbrev Read : Status → Type 0
Read e = is_unread (completion e) ≡ false

abbrev ReadBy : Result Command Status → Type 0
ReadBy (Carry c) = Unit {0}
ReadBy (Refused e) = Read e

need_read : (test : Bool) (e : Status) (d : Decoding) → Read e → ReadBy d.what → ReadBy (need test e d).what
unfolding need refused
need_read true e d h k = k
need_read false e d h k = h

einval_read : Read Einval
unfolding is_unread completion code
einval_read = refl

enotsup_read : Read Enotsup
unfolding is_unread completion code
enotsup_read = refl

flow_read : (terms : Terms) (s : List ℕ) (make : Flow → Command) → ReadBy (flow_in terms s make).what
unfolding flow_in carried
flow_read terms s make =
    need_read _ Einval _ einval_read (need_read _ Enotsup _ enotsup_read (need_read _ Einval _ einval_read tt))

flow_key_read : (terms : Terms) (s : List ℕ) → ReadBy (flow_key_in terms s).what
unfolding flow_key_in carried
flow_key_read terms s = need_read _ Einval _ einval_read tt

group_read : (terms : Terms) (s : List ℕ) (make : Group → Command) → ReadBy (group_in terms s make).what
unfolding group_in carried
group_read terms s make = need_read _ Einval _ einval_read tt

group_key_read : (terms : Terms) (s : List ℕ) → ReadBy (group_key_in terms s).what
unfolding group_key_in carried
group_key_read terms s = need_read _ Einval _ einval_read tt

either : (t : Bool) (a b : Decoding) → ReadBy a.what → ReadBy b.what → ReadBy (choose t a b).what
either true a b h k = h
either false a b h k = k

command_read : (terms : Terms) (c : ℕ) (s : List ℕ) → ReadBy (command_in terms c s).what
unfolding command_in
command_read terms c s =
    either (eqb c 3) _ _ (flow_read terms s FlowAdd)
    (either (eqb c 4) _ _ (flow_read terms s FlowMod)
    (either (eqb c 5) _ _ (flow_key_read terms s)
    (either (eqb c 7) _ _ (group_read terms s GroupAdd)
    (either (eqb c 8) _ _ (group_read terms s GroupMod) (group_key_read terms s)))))

decode_read : (terms : Terms) (s : List ℕ) → ReadBy (decode terms s).what
unfolding decode
decode_read terms s =
    need_read _ Einval _ einval_read
    (need_read _ Enotsup _ enotsup_read (need_read _ Einval _ einval_read (command_read terms _ _)))

module _ {A : Type 0} (key : A → ℕ) (k : ℕ) (l : List A) where
  add_read : (limit : ℕ) → Read (add_status (holds key) limit k l)
  unfolding add_status is_unread completion code
  add_read limit =
      by_test (holds key k l)
      (λ p. by_test (leb limit (length l)) (λ q. simp (p, q)) (λ q. simp (p, q)))
      (λ p. by_test (leb limit (length l)) (λ q. simp (p, q)) (λ q. simp (p, q)))

  held_read : Read (held_status (holds key) k l)
  unfolding held_status is_unread completion code
  held_read = by_test (holds key k l) (λ p. rw p) (λ p. rw p)

status_read : (t : Tables) (w : Result Command Status) → ReadBy w → Read (decoded_status t w)
unfolding decoded_status_in command_status_in
status_read t (Carry (FlowAdd f)) h = add_read cookie_of f.cookie t.flows max_flows
status_read t (Carry (FlowMod f)) h = held_read cookie_of f.cookie t.flows
status_read t (Carry (FlowDel k)) h = held_read cookie_of k t.flows
status_read t (Carry (GroupAdd g)) h = add_read id_of g.id t.groups max_groups
status_read t (Carry (GroupMod g)) h = held_read id_of g.id t.groups
status_read t (Carry (GroupDel k)) h = held_read id_of k t.groups
status_read t (Refused e) h = h

pub execute_read : (terms : Terms) (payload : List ℕ) (t : Tables) → is_unread (completion (execute terms payload t).status) ≡ false
unfolding execute_in carry_out_in executed
execute_read terms payload t = status_read t (decode terms payload).what (decode_read terms payload)

-- ---- An empty payload is EINVAL, as is a descriptor's fault that records none

pub execute_empty : (terms : Terms) (t : Tables) → ((execute terms [] t).status ≡ Einval) × ((execute terms [] t).tables ≡ t)
unfolding execute_in carry_out_in executed decoded_status_in decode need refused well_formed end_of tlvs walk is_at command_type command_info lookup scan code
execute_empty terms t = (refl, refl)

-- ---- The agreement

-- replay makes of the record of a slot what the slot did
abbrev Agrees : Progress → Order → Fetched → Type 0
Agrees p o f =
    let c = carry p.terms p.tables o f in
    record_read p (completion c.status) c.payload ≡ ready (counted p (completion c.status) c.tables)

payload_agrees : (p : Progress) (o : Order) (bs : List ℕ) → length bs ≤ max_payload → Agrees p o (Payload bs)
unfolding carry_by record_read record_agrees tables_after
payload_agrees p o bs h = rw (execute_read p.terms bs p.tables, le-leb _ _ h, eq-eqb (completion (execute p.terms bs p.tables).status) _ refl)

enxio_agrees : (p : Progress) (o : Order) → Agrees p o (Faulty Enxio)
unfolding carry_by record_read record_agrees tables_after is_unread completion code
enxio_agrees p o = refl

emsgsize_agrees : (p : Progress) (o : Order) → Agrees p o (Faulty Emsgsize)
unfolding carry_by record_read record_agrees tables_after is_unread completion code
emsgsize_agrees p o = refl

einval_agrees : (p : Progress) (o : Order) → Agrees p o (Faulty Einval)
unfolding carry_by record_read record_agrees tables_after
einval_agrees p o =
    let x = execute_empty p.terms p.tables in
    rw (einval_read, x.0, x.1, eq-eqb (completion Einval) _ refl)

-- whatever memory and descriptor hold
pub fetch_agrees : (p : Progress) (o : Order) (memory : List ℕ) (d : Descriptor) → Agrees p o (fetch memory d)
unfolding fetch part
fetch_agrees p o memory d =
    by_test (not (eqb (d.buf_addr % 8) 0 && inside d.buf_addr d.buf_size memory))
    (λ a. rw a (enxio_agrees p o))
    (λ a. by_test (ltb d.buf_size d.tlv_size)
    (λ b. rw (a, b) (einval_agrees p o))
    (λ b. by_test (ltb max_payload d.tlv_size)
    (λ c. rw (a, b, c) (emsgsize_agrees p o))
    (λ c. rw (a, b, c) (payload_agrees p o _ (rw length-take (omega (arith, ltb-false max_payload d.tlv_size c)))))))

-- what is recorded is short
pub fetch_short : (terms : Terms) (t : Tables) (o : Order) (memory : List ℕ) (d : Descriptor) → length (carry terms t o (fetch memory d)).payload ≤ max_payload
unfolding fetch carry_by part
fetch_short terms t o memory d =
    by_test (not (eqb (d.buf_addr % 8) 0 && inside d.buf_addr d.buf_size memory))
    (λ a. rw a (omega arith))
    (λ a. by_test (ltb d.buf_size d.tlv_size)
    (λ b. rw (a, b) (omega arith))
    (λ b. by_test (ltb max_payload d.tlv_size)
    (λ c. rw (a, b, c) (omega arith))
    (λ c. rw (a, b, c) (rw length-take (omega (arith, ltb-false max_payload d.tlv_size c))))))
