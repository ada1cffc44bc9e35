use mathlib.Core.Path.{refl}
use Rattle.rules.specs.Version.{header_counted, header_bytes}
use Rattle.rules.specs.Region.{length_field}
use Rattle.encoding.proofs.length_field.Goals as goal

pub returns : goal.returns
unfolding length_field header_bytes header_counted
returns c = refl
