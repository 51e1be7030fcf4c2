use Rattle.checker_trace.specs.Code.{spread_to}
use mathlib.Core.Path.{◌≡◌}
use Rattle.checker_trace.proofs.find.spread.Given as goal

abbrev pub invariant-loop-k : goal.invariant-loop-k
invariant-loop-k l = l.r ≡ spread_to l.t l.nodes l.e l.k l.s
