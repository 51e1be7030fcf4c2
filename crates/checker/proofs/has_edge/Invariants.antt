use lib.Dec.{eqb}
use mathlib.Core.Bool.{Bool, false}
use mathlib.Core.List.{List}
use Prim.Native.Nat.{◌*◌, ℕ}
use Rattle.usage.specs.Tests.{some_below}
use mathlib.Core.Path.{◌≡◌}
use lib.ListN.{get_or}
use Rattle.checker.proofs.has_edge.Given as goal

abbrev pub test : List ℕ → ℕ → ℕ → Bool
test t p i = eqb (get_or t (6 * i) 0) p

abbrev pub invariant-loop-i : goal.invariant-loop-i
invariant-loop-i l = some_below (test l.edges l.p) l.i ≡ false
