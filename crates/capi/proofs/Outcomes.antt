-- The end of a call as the host sees it, from what the device's call promises.
-- Assumes nothing.
use Prim.Native.Nat.{ℕ, ◌≤◌, ◌<◌}
use mathlib.Core.Bool.{Bool, true, false}
use mathlib.Core.Path.{◌≡◌, refl, sym, ◌∙◌}
use mathlib.Core.List.{List}
use Rattle.std.specs.Prelude.{Result as Either, Ok, Err}
use lib.Dec.{eqb}
use native.Mathlib.Omega.{arith}
use borrow.Author.Tests.{eq-eqb, ne_eqb, lt-ltb, le-ltb}
use Rattle.rules.specs.Answers.{refusal_number, answer_number}
use Rattle.rules.specs.Choose.{choose}
use Rattle.rules.specs.Members.{elem}
use Rattle.rules.specs.Journal.{completion}
use Rattle.rules.specs.Switch.{Switch, Storage, Borrowed, Result, switch_of, unchanged, unless_refused, read_effect, write_effect, linked, process_effect_by, framed, headed, refusal, effect, effect_by, step, step_by, fresh_refusal}
use Rattle.rules.specs.declared.Refusal.{Refusal}
use Rattle.answers.proofs.Refusals.{refusal_positive}
use Rattle.rules.specs.declared.Device.{Device}
use Rattle.rules.specs.declared.Request.{Request}
use Rattle.rules.specs.declared.Request.TheVariants.{Read, Write, Link, Process, Frame, Header}
use Rattle.device.specs.Outcome as device
use Rattle.device.specs.declared.Called.{Called}
use Rattle.words.specs.Words.{device_in}
use Rattle.capi.specs.Asking.{ask_refusal, request_of, asked}
use Rattle.capi.specs.Outcome.{Outcome, Stored, FreshOutcome, numbers_of, told_in, bit_of, six}

-- ---- What a kind of call gives

-- a choice has what both sides have
either : (P : Result → Type 0) (b : Bool) {x y : Result} → P x → P y → P (choose b x y)
either P true p q = p
either P false p q = q

-- of the six numbers those that the kind of call gives, and 0 for the others
abbrev pub given_by : Request → Result → List ℕ
given_by (Read offset width) of = six of.told.value 0 0 0 0 0
given_by (Write offset width value) of = six 0 (bit_of (elem 0 of.told.vectors)) 0 0 0 (bit_of of.told.reset)
given_by (Link port up) of = six 0 0 0 0 0 0
given_by Process of = six 0 (bit_of (elem 0 of.told.vectors)) of.told.completed of.told.written 0 0
given_by (Frame port) of = six 0 0 0 0 of.told.outputs 0
given_by Header of = six 0 0 0 of.told.written 0 0

module _ (s : Switch) (x : Borrowed) where
  done_gives : (q : Request) → given_by q (effect s x q) ≡ numbers_of (effect s x q)
  unfolding effect_by read_effect write_effect linked process_effect_by framed headed numbers_of told_in bit_of elem
  done_gives (Read offset width) = refl
  done_gives (Write offset width value) = refl
  done_gives (Link port up) = refl
  done_gives Process = refl
  done_gives (Frame port) = refl
  done_gives Header = refl

  refused_gives : (q : Request) (n : ℕ) → given_by q (unchanged s x n) ≡ numbers_of (unchanged s x n)
  unfolding unchanged numbers_of told_in bit_of elem
  refused_gives (Read offset width) n = refl
  refused_gives (Write offset width value) n = refl
  refused_gives (Link port up) n = refl
  refused_gives Process n = refl
  refused_gives (Frame port) n = refl
  refused_gives Header n = refl

  pub gives : (q : Request) → given_by q (step s x q) ≡ numbers_of (step s x q)
  unfolding step_by unless_refused
  gives q =
      either (λ of. given_by q of ≡ numbers_of of) (eqb (refusal s x q) 0) (done_gives q) (refused_gives q (refusal s x q))

  done_answers : (q : Request) → (effect s x q).answer ≡ 0
  unfolding effect_by read_effect write_effect linked process_effect_by framed headed
  done_answers (Read offset width) = refl
  done_answers (Write offset width value) = refl
  done_answers (Link port up) = refl
  done_answers Process = refl
  done_answers (Frame port) = refl
  done_answers Header = refl

  -- a refused call completes nothing
  nothing_completed : (q : Request) → ((step s x q).answer ≡ 0 → ⊥) → (step s x q).told.completed ≡ 0
  unfolding step_by unless_refused unchanged
  nothing_completed q =
      either (λ of. (of.answer ≡ 0 → ⊥) → of.told.completed ≡ 0) (eqb (refusal s x q) 0) (λ n. absurd (n (done_answers q))) (λ n. refl)

  -- a read, a frame and a header leave the switch
  stays : (q : Request) → (effect s x q).switch ≡ s → (step s x q).switch ≡ s
  unfolding step_by unless_refused unchanged
  stays q e = either (λ of. of.switch ≡ s) (eqb (refusal s x q) 0) e refl

  pub read_stays : (offset width : ℕ) → (step s x (Read offset width)).switch ≡ s
  unfolding effect_by read_effect
  read_stays offset width = stays (Read offset width) refl

  pub frame_stays : (port : ℕ) → (step s x (Frame port)).switch ≡ s
  unfolding effect_by framed
  frame_stays port = stays (Frame port) refl

  pub header_stays : (step s x Header).switch ≡ s
  unfolding effect_by headed
  header_stays = stays Header refl

-- ---- The end of a call

device_stored : (d : Device) (w w' : List ℕ) (answer : ℕ) (r : Either Called Refusal) → d ≡ device_in w → Stored answer r w w'
    → device_in w' ≡ device.device_after d r
device_stored d w w' answer (Ok c) is s = s.done
device_stored d w w' answer (Err e) is s = rw s.kept (sym is)

words_kept : (w w' : List ℕ) (answer : ℕ) (r : Either Called Refusal) → Stored answer r w w' → (answer_number r ≡ 0 → ⊥) → w' ≡ w
unfolding answer_number
words_kept w w' answer (Ok c) s n = absurd (n refl)
words_kept w w' answer (Err e) s n = s.kept

module _ (w : List ℕ) (d : Device) (a : Storage) (x : Borrowed) (q : Request) (is : d ≡ device_in w) {a' : Storage} {r : Either Called Refusal} {memory buffer list : List ℕ}
    (o : device.Outcome r d a a' memory buffer list (step (switch_of d a) x q)) where
  -- no place changes where the call is refused
  places_stay : ((step (switch_of d a) x q).answer ≡ 0 → ⊥) → a' ≡ a
  unfolding completion
  places_stay n = o.places_kept (λ e. absurd (let y = sym (nothing_completed _ x q n) ∙ e in omega arith))

  -- the words hold the device after it, or are as they were
  pub stored : {answer : ℕ} {w' out : List ℕ} → out ≡ given_by q (step (switch_of d a) x q) → Stored answer r w w'
      → Outcome answer w w' a a' out memory buffer list (step (switch_of (device_in w) a) x q)
  stored {answer} {w'} g s =
      let e : answer ≡ (step (switch_of d a) x q).answer = s.answer_is ∙ o.answer_is in
      rw (← is)
      (record {
        answer_is = e;
        out_is = g ∙ gives _ x q;
        memory_is = o.memory_is;
        buffer_is = o.buffer_is;
        list_is = o.list_is;
        switch_is = rw (device_stored d w w' answer r is s) o.switch_is;
        kept = λ n. (words_kept w w' answer r s (λ z. n (sym o.answer_is ∙ z)), places_stay n);
        places_kept = o.places_kept;
      })

  -- nothing that the host holds is written
  pub looked_at : {answer : ℕ} {out : List ℕ} → out ≡ given_by q (step (switch_of d a) x q) → answer ≡ answer_number r → (step (switch_of d a) x q).switch ≡ switch_of d a
      → Outcome answer w w a a out memory buffer list (step (switch_of (device_in w) a) x q)
  looked_at g e s =
      rw (← is)
      (record { answer_is = e ∙ o.answer_is; out_is = g ∙ gives _ x q; memory_is = o.memory_is; buffer_is = o.buffer_is; list_is = o.list_is; switch_is = rw (← is) (sym s); kept = λ n. (refl, refl); places_kept = λ n. refl })

-- ---- A call by its numbers

-- a link state above 1, and a kind that is none
pub no_state : (b : ℕ) → 1 < b → ask_refusal 2 b ≡ 2
unfolding ask_refusal
no_state b h = rw (lt-ltb 1 b h)

pub no_kind : (kind b : ℕ) → (kind ≡ 0 → ⊥) → (kind ≡ 1 → ⊥) → (kind ≡ 2 → ⊥) → (kind ≡ 3 → ⊥) → (kind ≡ 4 → ⊥) → (kind ≡ 5 → ⊥)
    → ask_refusal kind b ≡ 2
unfolding ask_refusal
no_kind kind b n0 n1 n2 n3 n4 n5 = rw (lt-ltb 5 kind (omega arith))

module _ (w : List ℕ) (a : Storage) (x : Borrowed) (kind m b c : ℕ) where
  pub refused : ask_refusal kind b ≡ 2 → Outcome 2 w w a a (six 0 0 0 0 0 0) x.memory x.buffer x.list (asked (switch_of (device_in w) a) x kind m b c)
  unfolding asked unless_refused unchanged numbers_of told_in bit_of elem
  refused e =
      rw e
      (record { answer_is = refl; out_is = refl; memory_is = refl; buffer_is = refl; list_is = refl; switch_is = refl; kept = λ y. (refl, refl); places_kept = λ y. refl })

-- a link state of 0 or 1 is asked of the rules
pub linking : (s : Switch) (x : Borrowed) (port b c : ℕ) → b ≤ 1 → asked s x 2 port b c ≡ step s x (Link port (eqb b 1))
unfolding asked ask_refusal request_of unless_refused
linking s x port b c h = rw (le-ltb 1 b h)

-- ---- Fresh

module _ {ports id : ℕ} {w : List ℕ} {a a' : Storage} where
  pub fresh_done : {w' : List ℕ} (d : Device) → device.Makes (Ok d) ports id a a' → device_in w' ≡ d → FreshOutcome 0 w w' a a' ports id
  unfolding answer_number
  fresh_done d h s =
      let t = eq-eqb (fresh_refusal ports) 0 (sym h.answer_is) in
      record { answer_is = h.answer_is; made = λ z. (s ∙ h.device_is ∙ rw t, h.places_are ∙ rw t); kept = λ n. absurd (n refl) }

  pub fresh_refused : (e : Refusal) → device.Makes (Err e) ports id a a' → FreshOutcome (refusal_number e) w w a a' ports id
  unfolding answer_number
  fresh_refused e h =
      let t = ne_eqb (fresh_refusal ports) 0 (λ z. refusal_positive e (h.answer_is ∙ z)) in
      record { answer_is = h.answer_is; made = λ z. absurd (refusal_positive e z); kept = λ n. (refl, h.places_are ∙ rw t) }
