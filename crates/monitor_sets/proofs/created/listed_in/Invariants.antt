-- `listed_in` meets its contract. The invariant: x is found, or it is one of the others.
use mathlib.Core.Bool.{◌||◌}
use mathlib.Core.Path.{◌≡◌}
use lib.ListN.{drop}
use Rattle.monitor_sets.specs.Created.{listed}
use Rattle.monitor_sets.proofs.created.listed_in.Given as goal

abbrev pub invariant-loop-y : goal.invariant-loop-y
invariant-loop-y l = (l.found || listed l.x (drop l.y-index l.live)) ≡ listed l.x l.live
