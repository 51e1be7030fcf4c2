-- `none_above` meets its contract. The invariant: whether one of the numbers so far is above the highest one.
use mathlib.Core.Bool.{not}
use mathlib.Core.Path.{◌≡◌}
use Rattle.monitor_sets.specs.Created.{highest_ok}
use Rattle.monitor_sets.proofs.created.none_above.Given as goal

abbrev pub invariant-loop-y : goal.invariant-loop-y
invariant-loop-y l = l.above ≡ not (highest_ok l.highest l.y-index l.live)
