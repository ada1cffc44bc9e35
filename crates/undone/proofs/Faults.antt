-- A replay that fails has an answer other than 0: no reader stops with 0, byte by byte.
-- Assumes nothing.
use Prim.Native.Nat.{ℕ}
use mathlib.Core.Path.{◌≡◌}
use mathlib.Core.List.{List, [], ◌∷◌, ◌++◌}
use native.Mathlib.Omega.{arith}
use lib.Dec.{leb, eqb}
use borrow.Author.Tests.{eqb-false}
use Rattle.rules.specs.Bytes.{le_at}
use Rattle.rules.specs.Journal.{Progress, Phase, Reader, Replayed, begin, ready, stopped, header_refusal, header_read, record_agrees, record_read, whole, feed, feeds, ends_in, finished, finish, replay}
use Rattle.rules.specs.Journal.Phase.{AtHeader, AtRecord, InPayload, Stopped}
use Rattle.rules.specs.Journal.Replayed.{Replays, Fails}
use Rattle.rules.proofs.Cases.{by_test}

-- the answer that a phase stops with is not 0
abbrev Faulty : Phase → Type 0
Faulty AtHeader = Unit
Faulty (AtRecord p) = Unit
Faulty (InPayload p c) = Unit
Faulty (Stopped answer at) = answer ≡ 0 → ⊥

header_faulty : (h : List ℕ) → Faulty (header_read h).phase
unfolding header_read ready stopped
header_faulty h =
    by_test (eqb (header_refusal h) 0) (λ p. simp p tt) (λ p. simp p (eqb-false (header_refusal h) 0 p))

record_faulty : (p : Progress) (c : ℕ) (payload : List ℕ) → Faulty (record_read p c payload).phase
unfolding record_read ready stopped
record_faulty p c payload = by_test (record_agrees p c payload) (λ q. simp q tt) (λ q. simp q (λ e. omega arith))

whole_faulty : (ph : Phase) (h : List ℕ) → Faulty ph → Faulty (whole ph h).phase
unfolding whole stopped
whole_faulty AtHeader h f = header_faulty h
whole_faulty (AtRecord p) h f = by_test (eqb (le_at 2 h 2) 0) (λ q. simp q (record_faulty p (le_at 2 h 0) [])) (λ q. simp q tt)
whole_faulty (InPayload p c) h f = record_faulty p c h
whole_faulty (Stopped answer at) h f = f

feeds_faulty : (r : Reader) (bs : List ℕ) → Faulty r.phase → Faulty (feeds r bs).phase
unfolding feeds feed
feeds_faulty r [] f = f
feeds_faulty r (b ∷ bs) f =
    feeds_faulty (feed r b) bs
    (by_test (leb r.want 1) (λ q. simp q (whole_faulty r.phase (r.have ++ (b ∷ [])) f)) (λ q. simp q f))

abbrev Failing : Replayed → Type 0
Failing (Replays p) = Unit
Failing (Fails answer at) = answer ≡ 0 → ⊥

ends_failing : (p : Progress) (have : List ℕ) → Failing (ends_in p have)
unfolding ends_in
ends_failing p [] = tt
ends_failing p (b ∷ bs) = λ e. omega arith

finished_failing : (ph : Phase) (have : List ℕ) → Faulty ph → Failing (finished ph have)
unfolding finished
finished_failing AtHeader have f = λ e. omega arith
finished_failing (AtRecord p) have f = ends_failing p have
finished_failing (InPayload p c) have f = λ e. omega arith
finished_failing (Stopped answer at) have f = f

replay_failing : (journal : List ℕ) → Failing (replay journal)
unfolding replay finish begin
replay_failing journal = finished_failing (feeds begin journal).phase (feeds begin journal).have (feeds_faulty begin journal tt)

-- THE LAW
pub fault_number : (journal : List ℕ) (answer at : ℕ) → replay journal ≡ Fails answer at → answer ≡ 0 → ⊥
fault_number journal answer at e = rw e at (replay_failing journal)
