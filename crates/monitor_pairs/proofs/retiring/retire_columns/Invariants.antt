use mathlib.Core.Path.{◌≡◌}
use lib.ListN.{length}
use Rattle.monitor_pairs.specs.Pairs.{pair_places}
use Rattle.monitor_pairs.specs.Code.{columns_retired}
use Rattle.monitor_pairs.proofs.retiring.retire_columns.Given as goal

abbrev pub invariant-loop-i : goal.invariant-loop-i
invariant-loop-i l =
    ((length l.sets ≡ pair_places) × (l.sets ≡ columns_retired l.at l.i l.initial.sets))
