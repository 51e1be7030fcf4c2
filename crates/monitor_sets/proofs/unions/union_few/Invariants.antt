-- `union_few` meets its contract. The invariant: the sets before the index are joined.
use mathlib.Core.Path.{◌≡◌}
use lib.ListN.{get_or}
use Rattle.automaton.specs.Mask.{union}
use Rattle.monitor_sets.proofs.unions.union_few.Given as goal

abbrev pub invariant-loop-set : goal.invariant-loop-set
invariant-loop-set l = l.m ≡ union l.set-index (λ j. get_or l.sets j 0)
