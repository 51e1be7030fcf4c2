use mathlib.Core.Path.{◌≡◌}
use lib.ListN.{length, get_or}
use Rattle.monitor_pairs.specs.Pairs.{pair_places}
use Rattle.monitor_pairs.specs.Code.{two_moved}
use Rattle.monitor_pairs.proofs.RunLaws.{filled}
use Rattle.monitor_pairs.proofs.runs.move_two.Given as goal

abbrev pub invariant-loop-k : goal.invariant-loop-k
invariant-loop-k l =
    ((length l.sets ≡ pair_places)
    × (l.sets ≡ filled (λ k. two_moved l.two.keep l.two.low l.two.lows l.two.high l.two.highs (get_or l.initial.sets k 0)) (λ k. get_or l.initial.sets k 0) pair_places l.k))
