use Prim.Native.Nat.{◌+◌}
use Rattle.checker_tables.specs.ByState.{ByState}
use lib.ListN.{get_or}
use Rattle.checker_tables.proofs.sets.entries.Given as goal

abbrev pub invariant-loop-q : goal.invariant-loop-q
invariant-loop-q l =
    ByState l.q (λ j. get_or l.t (l.i + j) 0) l.r
