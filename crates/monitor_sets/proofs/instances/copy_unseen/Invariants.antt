use mathlib.Core.Path.{◌≡◌}
use Rattle.monitor_sets.proofs.PlaceLaws.{table, copied_to}
use Rattle.monitor_sets.proofs.instances.copy_unseen.Given as goal

abbrev pub invariant-loop-p : goal.invariant-loop-p
invariant-loop-p l = (l.sets ≡ table (copied_to l.p l.initial.sets l.i))
