use mathlib.Core.Path.{◌≡◌}
use Rattle.monitor_sets.specs.Instances.{instances}
use Rattle.monitor_pairs.specs.Pairs.{pair_at}
use Rattle.monitor_pairs.proofs.RunLaws.{filled}
use Rattle.monitor_pairs.proofs.events.column_of.Given as goal

abbrev pub invariant-loop-i : goal.invariant-loop-i
invariant-loop-i l =
    (l.column ≡ filled (λ i. pair_at l.sets i l.at) (λ i. 0) instances l.i)
