use mathlib.Core.Path.{refl}
use Rattle.rules.specs.Tables.{fresh_arrays}
use Rattle.rules.specs.Switch.{fresh_storage}
use Rattle.capi.specs.Outcome.{parts_size}
use Rattle.capi.proofs.rocker_size.Goals as goal

pub returns : goal.returns
unfolding parts_size fresh_arrays fresh_storage
returns c = refl
