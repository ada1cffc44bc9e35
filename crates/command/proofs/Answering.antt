-- What is read, or the status of a fault, as the rules' decoding.
-- Assumes nothing.
use Prim.Native.Nat.{ℕ}
use mathlib.Core.Path.{◌≡◌, sym, ap, ◌∙◌}
use mathlib.Core.Bool.{true, false, ◌&&◌}
use mathlib.Core.List.{List, []}
use native.Mathlib.Omega.{arith}
use Rattle.std.proofs.Common.{Result, Ok, Err}
use Rattle.rules.specs.Members.{pad}
use Rattle.rules.specs.Region.{well_formed, lookup}
use Rattle.rules.specs.Fields.{is_at, number_in, nest_in}
use Rattle.rules.specs.Decode.{refused, carried, need, header_of, is_command, command_type, command_info, command_in, decode}
use Rattle.rules.specs.declared.Terms.{Terms}
use Rattle.rules.specs.declared.Found.{Found}
use Rattle.rules.specs.declared.Status.{Status}
use Rattle.rules.specs.declared.Status.TheVariants.{Einval, Enotsup}
use Rattle.rules.specs.declared.Command.{Command}
use Rattle.rules.specs.declared.Decoding.{Decoding}
use Rattle.rules.proofs.Cases.{by_test}
use Rattle.tlv.specs.declared.reader.Malformed.{Malformed}
use Rattle.fields.specs.Region.{Region, region_of}
use Rattle.command.specs.Answer.{carried_by, answered_by, answered}

clash : {G : Type 0} → ◌≡◌ {A = ℕ} 0 1 → G
clash e = absurd (omega arith)

-- a status is answered, also where `?` handed it on
pub answers_fault : (r : Result (Command × List ℕ) Status) (d : Decoding) (e : Status) → (x : Status) × (r ≡ Err x) × (x ≡ e) → refused e ≡ d → answered r ≡ d
answers_fault r d e p q = rw (p.1, p.2) q

module _ {A : Type 0} (make : A → Command) where
  -- a part without members, as a command
  pub plain_fault : (t : Result A Status) (r : Result (Command × List ℕ) Status) (d : Decoding) (e : Status)
      → carried_by make t ≡ d → t ≡ Err e → (x : Status) × (r ≡ Err x) × (x ≡ e) → answered r ≡ d
  plain_fault t r d e c q p = answers_fault r d e p (sym (ap (carried_by make) q) ∙ c)

  pub plain : (t : Result A Status) (d : Decoding) (x : A) → carried_by make t ≡ d → t ≡ Ok x → record { what = Ok (make x); members = pad [] } ≡ d
  unfolding carried
  plain t d x c q = sym (ap (carried_by make) q) ∙ c

  -- one with them
  pub listing_fault : (t : Result (A × List ℕ) Status) (r : Result (Command × List ℕ) Status) (d : Decoding) (e : Status)
      → answered_by make t ≡ d → t ≡ Err e → (x : Status) × (r ≡ Err x) × (x ≡ e) → answered r ≡ d
  listing_fault t r d e c q p = answers_fault r d e p (sym (ap (answered_by make) q) ∙ c)

  pub listing : (t : Result (A × List ℕ) Status) (d : Decoding) (x : A) (l : List ℕ) → answered_by make t ≡ d → t ≡ Ok (x, l) → record { what = Ok (make x); members = l } ≡ d
  listing t d x l c q = sym (ap (answered_by make) q) ∙ c

module _ (terms : Terms) (s : List ℕ) where
  -- a region is well formed, or not
  pub region_err : (m : Malformed) → region_of terms s ≡ Err m → well_formed (header_of terms) s ≡ false
  region_err m e =
      by_test (well_formed (header_of terms) s)
      (λ p. let q : ◌≡◌ {A = Result Region Malformed} (Ok (record { terms = terms; bytes = s })) (Err m) = sym (rw p) ∙ e in clash cc)
      (λ p. p)

  pub region_ok : (r : Region) → region_of terms s ≡ Ok r → (well_formed (header_of terms) s ≡ true) × (r ≡ record { terms = terms; bytes = s })
  region_ok r e =
      by_test (well_formed (header_of terms) s)
      (λ p. let q : ◌≡◌ {A = Result Region Malformed} (Ok (record { terms = terms; bytes = s })) (Ok r) = sym (rw p) ∙ e in (p, cc))
      (λ p. let q : ◌≡◌ {A = Result Region Malformed} (Err (record {})) (Ok r) = sym (rw p) ∙ e in clash cc)

  -- the top region is malformed; or it is looked at for its two fields
  pub decode_malformed : (m : Malformed) → region_of terms s ≡ Err m → refused Einval ≡ decode terms s
  unfolding decode need
  decode_malformed m e = rw (region_err m e)

  pub decode_past : (r : Region) (n i : Found) → region_of terms s ≡ Ok r → n ≡ lookup (header_of r.terms) r.bytes 1 2 → i ≡ lookup (header_of r.terms) r.bytes 2 0
      → decode terms s
      ≡ need (is_at n && is_at i) Einval
      (need (is_command (number_in s 2 n)) Enotsup
      (need (well_formed (header_of terms) (nest_in s i)) Einval (command_in terms (number_in s 2 n) (nest_in s i))))
  unfolding decode need command_type command_info
  decode_past r n i e en ei =
      let o = region_ok r e in
      let fn : lookup (header_of terms) s 1 2 ≡ n = sym (en ∙ ap (λ (x : Region). lookup (header_of x.terms) x.bytes 1 2) o.1) in
      let fi : lookup (header_of terms) s 2 0 ≡ i = sym (ei ∙ ap (λ (x : Region). lookup (header_of x.terms) x.bytes 2 0) o.1) in
      rw (o.0, fn, fi)
