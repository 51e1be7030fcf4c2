use Rattle.automaton.specs.Mask.{has, union}
use mathlib.Core.Bool.{cond}
use mathlib.Core.Path.{◌≡◌}
use Prim.Native.Nat.{◌+◌}
use lib.ListN.{get_or}
use Rattle.checker_tables.proofs.union_over.Given as goal

abbrev pub invariant-loop-q : goal.invariant-loop-q
invariant-loop-q l =
    l.r ≡ union l.q (λ j. cond (has l.v j) (get_or l.t (l.i + j) 0) 0)
