-- `stays` meets its contract, which is what it computes.
use mathlib.Core.Path.{refl}
use Rattle.automaton.specs.Code.{stays_by}
use Rattle.automaton.proofs.stays.Goals as goal

pub returns : goal.returns
unfolding stays_by
returns c = refl
