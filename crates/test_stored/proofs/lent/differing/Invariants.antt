use Prim.Native.Nat.{◌≤◌}
use Rattle.test_stored.proofs.lent.differing.Given as goal

abbrev pub invariant-loop-i : goal.invariant-loop-i
invariant-loop-i g l = l.n ≤ l.i
