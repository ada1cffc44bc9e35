-- A call's numbers as a request of the rules.
use Rattle.std.specs.Prelude.{ℕ, ◌&&◌, ltb, eqb}
use Rattle.rules.specs.Choose.{choose, refuse}
use Rattle.rules.specs.Switch.{Switch, Borrowed, Result, unless_refused, step}
use Rattle.rules.specs.declared.Request.{Request}
use Rattle.rules.specs.declared.Request.TheVariants.{Read, Write, Link, Process, Frame, Header}

-- 2 (value not allowed): a kind above 5, or a link state that is neither 0 nor 1
unfoldable pub ask_refusal : ℕ → ℕ → ℕ
ask_refusal kind b = refuse (ltb 5 kind) 2 (refuse (eqb kind 2 && ltb 1 b) 2 0)

-- the kinds in the order of Request; a link is up at 1
unfoldable pub request_of : ℕ → ℕ → ℕ → ℕ → Request
request_of kind a b c =
    choose (eqb kind 0) (Read a b)
    (choose (eqb kind 1) (Write a b c)
    (choose (eqb kind 2) (Link a (eqb b 1))
    (choose (eqb kind 3) Process
    (choose (eqb kind 4) (Frame a)
    Header))))

-- a call by its numbers: refused, or the rules' step
unfoldable pub asked : Switch → Borrowed → ℕ → ℕ → ℕ → ℕ → Result
asked s x kind a b c = unless_refused s x (ask_refusal kind b) (step s x (request_of kind a b c))
