use Prim.Native.Nat.{◌≤◌}
use Rattle.test_stored.proofs.rewritings.kept.Given as goal

abbrev pub invariant-loop-x : goal.invariant-loop-x
invariant-loop-x l = l.n ≤ l.x-index
