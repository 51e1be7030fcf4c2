use mathlib.Core.Path.{refl}
use Rattle.api_records.specs.Code.{zeros}
use Rattle.api_records.proofs.flat.empty.Goals as goal

pub returns : goal.returns
unfolding zeros
returns c = refl
