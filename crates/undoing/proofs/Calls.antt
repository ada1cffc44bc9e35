-- The call's ways out, each against the rule: too little room, a list that fits, a journal's fault, too few records; and a whole journal.
-- Assumes nothing.
use Prim.Native.Nat.{ℕ, ◌≤◌, ◌<◌}
use mathlib.Core.Path.{◌≡◌, refl, ap, ◌∙◌}
use mathlib.Core.List.{List}
use native.Mathlib.Omega.{arith}
use lib.ListN.{length}
use borrow.Author.Tests.{lt-ltb, le-ltb, ne_eqb}
use Rattle.std.specs.Prelude.{Ok, Err, IfOk}
use Rattle.rules.specs.Answers.{refusal_number}
use Rattle.rules.specs.Tables.{Tables, Arrays, tables_of}
use Rattle.rules.specs.Journal.{Progress as Rule, Replayed as Outcome, replay}
use Rattle.rules.specs.Journal.Replayed.{Replays, Fails}
use Rattle.rules.specs.Undo.{tables_then, payloads, listed, refused_undo, written_undo, fitted, undo_from, undo, Undone as Told}
use Rattle.rules.specs.declared.Refusal.{Refusal}
use Rattle.rules.specs.declared.Refusal.TheVariants.{TooFewRecords, RoomShort}
use Rattle.replaying.specs.declared.reader.Progress.{Progress}
use Rattle.replaying.specs.declared.replay.ReplayFault.{ReplayFault}
use Rattle.rules.proofs.Tables.{Good}
use Rattle.rules.proofs.Cases.{by_lt}
use Rattle.replaying.specs.Reading.{most, progress_of}
use Rattle.replaying.specs.Replaying.{result_of, Replayed}
use Rattle.replaying.proofs.Capping.{replay_uncapped}
use Rattle.listing.specs.Listing.{Lists, nothing_listed, InOrder}
use Rattle.listing.specs.declared.Listed.{Listed}
use Rattle.earlier.specs.Earlier.{fresh_undoing, Reads, Ends}
use Rattle.earlier.specs.declared.reading.Undoing.{Undoing}
use Rattle.earlier.proofs.Steps.{opened_right}
use Rattle.earlier.specs.declared.reading.Ended.{Ended}
use Rattle.undoing.specs.Undoing.{Undone, told_by, Is}

abbrev pub refusal : ℕ → Refusal → Undone
refusal at r = Err (record { refusal = r; at = at })

-- ---- The room

-- 16
pub room_short : (r : Undone) (l : Listed) (after before : List ℕ) (ps : List (List ℕ)) (few : ℕ) (room : List ℕ)
    → Lists l nothing_listed after ps few before → length room < l.size → r ≡ refusal 0 RoomShort → Is r room (fitted ps room)
unfolding fitted nothing_listed refusal_number refused_undo told_by
room_short r l after before ps few room a h f =
    let s = a.size_is in
    rw (f, lt-ltb (length room) (length (listed ps)) (omega arith)) refl

-- a list that fits
pub list_fits : (l l' : Listed) (before' after' after : List ℕ) (ps : List (List ℕ)) (few few' : ℕ) (room : List ℕ)
    → Lists l' nothing_listed after' ps few' before' → l'.size ≤ length room → Lists l nothing_listed after ps few room
    → Is (Ok l) after (fitted ps room)
unfolding fitted written_undo nothing_listed told_by
list_fits l l' before' after' after ps few few' room a h b =
    let s = a.size_is in
    let t = b.size_is in
    let c : l.count ≡ length ps = omega (arith, b.count_is) in
    let z : l.size ≡ length (listed ps) = omega arith in
    rw (le-ltb (length room) (length (listed ps)) (omega arith), c, z, b.written (omega arith)) refl

-- ---- The answer

module _ (q : Replayed) (a : Arrays) (n : ℕ) (t : Tables) (room : List ℕ) where
  -- a fault of the journal
  pub journal_fails : (f : ReplayFault) → q ≡ Err f → Is (Err f) room (undo_from (result_of q a) n t room)
  unfolding result_of undo_from refused_undo told_by
  journal_fails f e = rw e refl

  -- 15
  pub too_few : (r : Undone) (p : Progress) → q ≡ Ok p → p.records < n → r ≡ refusal 0 TooFewRecords → Is r room (undo_from (result_of q a) n t room)
  unfolding result_of undo_from progress_of refused_undo refusal_number told_by
  too_few r p e h f = rw (e, f, lt-ltb p.records n h) refl

  pub as_fitted : (r : Undone) (after : List ℕ) (p : Progress) → q ≡ Ok p → n ≤ p.records
      → Is r after (fitted (payloads t (tables_of p.counts a)) room) → Is r after (undo_from (result_of q a) n t room)
  unfolding result_of undo_from progress_of
  as_fitted r after p e h i = rw (e, le-ltb p.records n h) i

-- ---- A whole journal

-- read from the start
pub opened_few : (u : Undoing) (n : ℕ) → u ≡ fresh_undoing n → u.had ≤ u.wanted
unfolding fresh_undoing
opened_few u n e = rw e (omega arith)

pub opened_reads : (d : Ended) (u : Undoing) (n : ℕ) (a a' b b' : Arrays) (journal : List ℕ) → u ≡ fresh_undoing n → Ends d u a a' b b' journal
    → Reads d n a' b' journal
unfolding fresh_undoing
opened_reads d u n a a' b b' journal e f = (rw e at f.reads) journal (opened_right n a b journal)

-- good tables are in order
pub in_order : (t : Tables) → Good t → InOrder t
in_order t g = record { flows_rise = g.flows_rise; groups_rise = g.groups_rise }

pub replayed_in_order : (q : Replayed) (a : Arrays) → IfOk q (λ p. Good (tables_of p.counts a)) → IfOk q (λ p. InOrder (tables_of p.counts a))
replayed_in_order (Ok p) a g = in_order (tables_of p.counts a) g
replayed_in_order (Err f) a g = tt

-- earlier tables matter only where there are n records
same_told : (o : Outcome) (n : ℕ) (s t room : _) → ((p : Rule) → o ≡ Replays p → n ≤ p.records → s ≡ t) → undo_from o n s room ≡ undo_from o n t room
unfolding undo_from
same_told (Replays p) n s t room h =
    by_lt p.records n (λ k q. rw q) (λ k q. rw (h p refl k))
same_told (Fails answer at) n s t room h = refl

pub whole_journal : (r : Undone) (after room journal : List ℕ) (n : ℕ) (e : Ended) (a b : Arrays) → length journal ≤ most → Reads e n a b journal
    → Is r after (undo_from (result_of e.result a) n (tables_of e.early b) room) → Is r after (undo journal n room)
unfolding undo
whole_journal r after room journal n e a b h d i =
    let c : result_of e.result a ≡ replay journal = d.gives.result_is ∙ replay_uncapped journal h in
    let k = same_told (replay journal) n (tables_of e.early b) (tables_then n journal) room d.early_is in
    rw (← k) (rw c at i)
