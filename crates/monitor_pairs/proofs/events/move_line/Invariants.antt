use mathlib.Core.Path.{◌≡◌}
use lib.ListN.{get_or}
use Rattle.automaton.specs.Move.{move_by}
use Rattle.monitor_sets.specs.Instances.{instances}
use Rattle.monitor_pairs.proofs.RunLaws.{filled}
use Rattle.monitor_pairs.proofs.events.move_line.Given as goal

abbrev pub invariant-loop-i : goal.invariant-loop-i
invariant-loop-i l =
    (l.moved ≡ filled (λ j. move_by l.rows 0 (get_or l.line j 0)) (λ j. 0) instances l.i)
