use mathlib.Core.Path.{◌≡◌}
use Rattle.monitor_pairs.specs.Code.{beside_columns}
use Rattle.monitor_pairs.proofs.gathering.columns_beside.Given as goal

abbrev pub invariant-loop-i : goal.invariant-loop-i
invariant-loop-i l =
    (l.line ≡ beside_columns l.i l.at l.sets)
