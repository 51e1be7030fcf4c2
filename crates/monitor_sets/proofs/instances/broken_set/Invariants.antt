use mathlib.Core.Path.{◌≡◌}
use lib.ListN.{get_or}
use Rattle.automaton.specs.Mask.{union}
use Rattle.monitor_sets.specs.Code.{broken_bit_lem}
use Rattle.monitor_sets.proofs.instances.broken_set.Given as goal

abbrev pub invariant-loop-p : goal.invariant-loop-p
invariant-loop-p l = (l.bad ≡ union l.p (λ q. broken_bit_lem l.looked (get_or l.possible q 0) (get_or l.unclosed q 0) q))
