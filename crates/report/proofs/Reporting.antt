-- A number in decimal, and texts written one after another: what two writings put is
-- one writing of both (`splice_on`), and a number has twenty digits at most.
-- Assumes nothing.
use Prim.Native.Nat.{ℕ, zero, suc, ◌+◌, ◌-◌, ◌*◌, ◌/◌, ◌%◌, ◌≤◌, ◌<◌, ◌^◌, min}
use mathlib.Core.Path.{◌≡◌, refl, sym, ap, ◌∙◌}
use mathlib.Core.List.{List, [], ◌∷◌, ◌++◌, append_assoc, append-nil}
use native.Mathlib.Omega.{arith}
use native.Mathlib.Nat.{pow-suc}
use lib.ListN.{length, take, drop, set, replicate, length-append, length-set, length-drop, length-take, length-map}
use lib.Seq.{take_all, drop-cons, drop-set-lt, get_or-set_same}
use lib.Dec.{ltb}
use borrow.Author.Tests.{lt-ltb, le-ltb, eq-eqb, ne_eqb}
use Rattle.std.specs.Fmt.{decimal as text_of}
use Rattle.std.proofs.lemmas.Fmt.{AppendsLastDigit, decimal_from_appends, length-decimal-le}
use Rattle.std.specs.Prelude.{Result, Ok, Err}
use Rattle.rules.specs.Answers.{refusal_number}
use Rattle.replaying.specs.declared.replay.ReplayFault.{ReplayFault}
use Rattle.listing.specs.declared.Listed.{Listed}
use Rattle.rules.specs.Bytes.{splice}
use Rattle.rules.specs.Rows.{beside}
use Rattle.rules.specs.Places.{live}
use Rattle.rules.specs.Tables.{live_flows, live_groups}
use Rattle.rules.specs.Journal.{Progress as Rule, digits, decimal, item, line, report, word_ports, word_lines, word_charged, word_flows, word_groups, word_refused, word_line}
use Rattle.rules.specs.Journal.Replayed.{Replays, Fails}
use Rattle.rules.specs.Undo.{word_payloads, word_bytes, undo_report}
use Rattle.rules.proofs.Cases.{by_test}
use Rattle.report.specs.Reporting.{Puts, told_undone, told_outcome}
use Rattle.journal.proofs.Writing.{splice_on}

-- ---- Digits

-- the library's text of a number is the rules'
appends : AppendsLastDigit digits
unfolding digits
appends = record { one = λ k n h. rw (lt-ltb n 10 h); more = λ k n h. rw (le-ltb n 10 h) }

pub decimal_same : (n : ℕ) → n < 2 ^ 64 → text_of n ≡ decimal n
unfolding decimal
decimal_same n h = sym (decimal_from_appends digits appends 20 n h (length-decimal-le 20 n (omega arith) (omega arith) h))

digits_short : (k n : ℕ) → length (digits k n) ≤ k
unfolding digits
digits_short zero n = omega arith
digits_short (suc k) n =
    by_test (ltb n 10) (λ t. rw t (omega arith)) (λ t. rw (t, length-append) (omega (arith, digits_short k (n / 10))))

pub decimal_short : (n : ℕ) → length (decimal n) ≤ 20
unfolding decimal
decimal_short n = digits_short 20 n

pub item_short : (word : List ℕ) (n : ℕ) → length (item word n) ≤ length word + 21
unfolding item
item_short word n = rw length-append (omega (arith, decimal_short n))

pub line_short : (word : List ℕ) (n : ℕ) → length (line word n) ≤ length word + 22
unfolding line
line_short word n = rw length-append (omega (arith, item_short word n))

-- ---- Texts

pub puts_bytes : (r : ℕ) (after : List ℕ) (at : ℕ) (bytes before : List ℕ) → r ≡ at + length bytes → after ≡ splice at bytes before
    → Puts r after at bytes before (length bytes)
puts_bytes r after at bytes before e h = record { buffer_is = h; end_is = e; at_most = omega arith }

-- one text, and then another
pub puts_on : {m r at x y : ℕ} {a b s t u : List ℕ} (most : ℕ) → at ≤ length s → length (a ++ b) ≤ most → Puts m t at a s x → Puts r u m b t y
    → Puts r u at (a ++ b) s most
puts_on {at = at} {a = a} {b = b} {s = s} most h k p q =
    let e : _ ≡ at + length (a ++ b) = q.end_is ∙ rw (p.end_is, length-append) (omega arith) in
    record {
      buffer_is = q.buffer_is ∙ rw (p.end_is, p.buffer_is) (splice_on at a b s h);
      end_is = e;
      at_most = omega arith;
    }

pub puts_same : {r at x : ℕ} {a b s t : List ℕ} (most : ℕ) → a ≡ b → length b ≤ most → Puts r t at a s x → Puts r t at b s most
puts_same most e k p = record { buffer_is = p.buffer_is ∙ rw e; end_is = p.end_is ∙ rw e; at_most = omega (arith, p.end_is, ap length e) }

pub number_put : (r : ℕ) (after : List ℕ) (at n : ℕ) (text before : List ℕ) → n < 2 ^ 64 → text ≡ text_of n → r ≡ at + length text
    → after ≡ splice at text before → Puts r after at (decimal n) before 20
number_put r after at n text before h t e q =
    puts_same 20 (t ∙ decimal_same n h) (decimal_short n) (puts_bytes r after at text before e q)

pub item_put : {s t u v : List ℕ} {at m k r x y z : ℕ} (word : List ℕ) (n : ℕ) → at ≤ length s → Puts m t at word s x → Puts k u m (32 ∷ []) t y
    → Puts r v k (decimal n) u z → Puts r v at (item word n) s (length word + 21)
unfolding item
item_put word n h p q w =
    let a = puts_on (length word + 1) h (simp length-append (omega arith)) p q in
    let b = puts_on (length word + 21) h (simp length-append (omega (arith, decimal_short n))) a w in
    puts_same (length word + 21) (append_assoc word (32 ∷ []) (decimal n)) (simp length-append (omega (arith, decimal_short n))) b

pub line_put : {s t u : List ℕ} {at m r x y : ℕ} (word : List ℕ) (n : ℕ) → at ≤ length s → Puts m t at (item word n) s x → Puts r u m (10 ∷ []) t y
    → Puts r u at (line word n) s (length word + 22)
unfolding line
line_put word n h p q = puts_on _ h (unfold line in line_short word n) p q

-- ---- What the program prints

pub fault_put : {s t u v : List ℕ} {m k r x y z : ℕ} (answer at : ℕ)
    → Puts m t 0 (item word_refused answer) s x
    → Puts k u m (32 ∷ []) t y
    → Puts r v k (line word_line at) u z
    → Puts r v 0 (report (Fails answer at)) s 160
unfolding report
fault_put answer at p q w =
    let e = item_short word_refused answer in
    let f = line_short word_line at in
    let a = puts_on 160 (omega arith) (simp length-append (omega arith)) p q in
    let b = puts_on 160 (omega arith) (simp length-append (omega arith)) a w in
    puts_same 160 (append_assoc (item word_refused answer) (32 ∷ []) (line word_line at)) (simp length-append (omega arith)) b

pub progress_put : {s t u v w o : List ℕ} {a b c d r x₁ x₂ x₃ x₄ x₅ : ℕ} (p : Rule)
    → Puts a t 0 (line word_ports p.terms.ports) s x₁
    → Puts b u a (line word_lines p.records) t x₂
    → Puts c v b (line word_charged p.charged) u x₃
    → Puts d w c (line word_flows (length p.tables.flows)) v x₄
    → Puts r o d (line word_groups (length p.tables.groups)) w x₅
    → Puts r o 0 (report (Replays p)) s 160
unfolding report
progress_put p l₁ l₂ l₃ l₄ l₅ =
    let e₁ = line_short word_ports p.terms.ports in
    let e₂ = line_short word_lines p.records in
    let e₃ = line_short word_charged p.charged in
    let e₄ = line_short word_flows (length p.tables.flows) in
    let e₅ = line_short word_groups (length p.tables.groups) in
    let m₂ = puts_on 160 (omega arith) (simp length-append (omega arith)) l₁ l₂ in
    let m₃ = puts_on 160 (omega arith) (simp length-append (omega arith)) m₂ l₃ in
    let m₄ = puts_on 160 (omega arith) (simp length-append (omega arith)) m₃ l₄ in
    let m₅ = puts_on 160 (omega arith) (simp length-append (omega arith)) m₄ l₅ in
    puts_same 160 (simp append_assoc) (simp length-append (omega arith)) m₅

-- ---- What undoing prints

pub list_put : {s t u : List ℕ} {m r x y : ℕ} (count size : ℕ)
    → Puts m t 0 (line word_payloads count) s x
    → Puts r u m (line word_bytes size) t y
    → Puts r u 0 (line word_payloads count ++ line word_bytes size) s 160
list_put count size p q =
    let e = line_short word_payloads count in
    let f = line_short word_bytes size in
    puts_on 160 (omega arith) (simp length-append (omega arith)) p q

module _ {s t : List ℕ} {r : ℕ} (answer at count size : ℕ) where
  pub told_list : answer ≡ 0 → Puts r t 0 (line word_payloads count ++ line word_bytes size) s 160
      → Puts r t 0 (undo_report (told_undone answer at count size)) s 160
  unfolding undo_report
  told_list e p = rw (eq-eqb answer 0 e) p

  pub told_refused : {x : ℕ} → (answer ≡ 0 → ⊥) → 14 < answer → Puts r t 0 (line word_refused answer) s x
      → Puts r t 0 (undo_report (told_undone answer at count size)) s 160
  unfolding undo_report
  told_refused e h p =
      let f = line_short word_refused answer in
      rw (ne_eqb answer 0 e, lt-ltb 14 answer h) (puts_same 160 refl (omega arith) p)

  pub told_fault : (answer ≡ 0 → ⊥) → answer ≤ 14 → Puts r t 0 (report (Fails answer at)) s 160
      → Puts r t 0 (undo_report (told_undone answer at count size)) s 160
  unfolding undo_report
  told_fault e h p = rw (ne_eqb answer 0 e, le-ltb 14 answer h) p

module _ {s t : List ℕ} {r : ℕ} (u : Result Listed ReplayFault) where
  pub outcome_list : (l : Listed) → u ≡ Ok l → Puts r t 0 (undo_report (told_undone 0 0 l.count l.size)) s 160
      → Puts r t 0 (undo_report (told_outcome u)) s 160
  unfolding told_outcome
  outcome_list l e p = rw e p

  pub outcome_fault : (f : ReplayFault) {n : ℕ} → u ≡ Err f → n ≡ refusal_number f.refusal → Puts r t 0 (undo_report (told_undone n f.at 0 0)) s 160
      → Puts r t 0 (undo_report (told_outcome u)) s 160
  unfolding told_outcome
  outcome_fault f e k p = rw (e, ← k) p

-- ---- How many places are live

pub flows_counted : (count n : ℕ) (rows : List (List ℕ)) → n ≡ min count (length rows) → n ≡ length (live_flows count rows)
unfolding live
flows_counted count n rows e = e ∙ simp (length-map, length-take)

length_beside : (hs ms : List (List ℕ)) → length (beside hs ms) ≡ min (length hs) (length ms)
length_beside [] ms = omega arith
length_beside (h ∷ hs) [] = omega arith
length_beside (h ∷ hs) (m ∷ ms) = omega (arith, length_beside hs ms)

pub groups_counted : (count k n : ℕ) (heads members : List (List ℕ)) → k ≡ min (length heads) (length members) → n ≡ min count k
    → n ≡ length (live_groups count heads members)
unfolding live
groups_counted count k n heads members f e = e ∙ simp (length-map, length-take, length_beside, f)
