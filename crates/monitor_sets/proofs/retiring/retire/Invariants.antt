-- `retire` meets its contract. The invariant: the instance is retired in the policies below p.
use mathlib.Core.Path.{◌≡◌}
use lib.ListN.{length}
use Rattle.monitor_sets.specs.Instances.{set_places}
use Rattle.monitor_sets.specs.Code.{retired_below}
use Rattle.monitor_sets.proofs.retiring.retire.Given as goal

abbrev pub invariant-loop-p : goal.invariant-loop-p
invariant-loop-p l = ((length l.sets ≡ set_places) × (l.sets ≡ retired_below l.at l.n l.p l.initial.sets))
