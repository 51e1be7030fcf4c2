use Prim.Native.Nat.{◌≤◌}
use Rattle.test_stored.proofs.trace_calls.kept.Given as goal

abbrev pub invariant-loop-x : goal.invariant-loop-x
invariant-loop-x l = l.n ≤ l.x-index
