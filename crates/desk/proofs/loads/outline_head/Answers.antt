use Rattle.desk.specs.Code.{with_nodes}
use mathlib.Core.Path.{refl}
use Rattle.desk.proofs.loads.outline_head.Goals as goal

-- src/loads.rt:205:1
pub returns : goal.returns
unfolding with_nodes
returns c = refl
