use Prim.Native.Nat.{◌*◌}
use mathlib.Core.Path.{◌≡◌}
use lib.ListN.{length}
use Rattle.monitor_sets.specs.Instances.{instances, set_places}
use Rattle.monitor_sets.specs.Sets.{reset_sets}
use Rattle.monitor_sets.proofs.instances.reset.Given as goal

abbrev pub invariant-loop-i : goal.invariant-loop-i
invariant-loop-i l = (l.k ≡ l.p * instances) × (length l.sets ≡ set_places) × (l.sets ≡ reset_sets l.i l.p l.initial.sets)
