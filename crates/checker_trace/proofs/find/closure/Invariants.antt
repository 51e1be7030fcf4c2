use Rattle.checker_trace.specs.Code.{Spreads}
use Prim.Native.Nat.{◌-◌}
use Rattle.checker_trace.proofs.find.closure.Given as goal

abbrev pub invariant-loop-s : goal.invariant-loop-s
invariant-loop-s l = Spreads l.t l.nodes l.e l.s

abbrev pub decreases-loop-s : goal.decreases-loop-s
decreases-loop-s l = 18446744073709551616 - l.s
