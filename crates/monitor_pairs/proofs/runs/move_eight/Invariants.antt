use mathlib.Core.Path.{◌≡◌}
use lib.ListN.{length, get_or}
use Rattle.automaton.specs.Move.{move_by}
use Rattle.monitor_pairs.specs.Pairs.{pair_places}
use Rattle.monitor_pairs.proofs.RunLaws.{filled}
use Rattle.monitor_pairs.proofs.runs.move_eight.Given as goal

abbrev pub invariant-loop-k : goal.invariant-loop-k
invariant-loop-k l =
    ((length l.sets ≡ pair_places) × (l.sets ≡ filled (λ k. move_by l.rows 0 (get_or l.initial.sets k 0)) (λ k. get_or l.initial.sets k 0) pair_places l.k))
