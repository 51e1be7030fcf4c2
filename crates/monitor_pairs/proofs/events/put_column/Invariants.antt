use Prim.Native.Nat.{◌/◌}
use mathlib.Core.Path.{◌≡◌}
use lib.ListN.{length, get_or}
use Rattle.monitor_sets.specs.Instances.{instances}
use Rattle.monitor_pairs.specs.Pairs.{pair_places}
use Rattle.monitor_pairs.proofs.RunLaws.{column}
use Rattle.monitor_pairs.proofs.events.put_column.Given as goal

abbrev pub invariant-loop-i : goal.invariant-loop-i
invariant-loop-i l =
    ((length l.sets ≡ pair_places) × (l.sets ≡ column l.at (λ k. get_or l.column (k / instances) 0) (λ k. get_or l.initial.sets k 0) l.i))
