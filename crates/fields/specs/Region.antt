-- A well-formed region under the terms that it is read by.
use Rattle.std.specs.Prelude.{ℕ, List, Result, Ok, Err}
use Rattle.rules.specs.Choose.{choose}
use Rattle.rules.specs.Region.{well_formed}
use Rattle.rules.specs.Decode.{header_of}
use Rattle.rules.specs.declared.Terms.{Terms}
use Rattle.tlv.specs.declared.reader.Malformed.{Malformed}

pub record Region : Type 0 where
  pub terms : Terms
  pub bytes : List ℕ

abbrev pub region_of : Terms → List ℕ → Result Region Malformed
region_of terms s = choose (well_formed (header_of terms) s) (Ok (record { terms = terms; bytes = s })) (Err (record {}))
