use lib.Dec.{eqb}
use mathlib.Core.Bool.{Bool, false, ◌&&◌}
use mathlib.Core.List.{List}
use mathlib.Core.Path.{◌≡◌}
use Prim.Native.Nat.{◌*◌, ℕ, ◌+◌}
use lib.ListN.{get_or}
use Rattle.usage.specs.Tests.{some_below}
use Rattle.checker.proofs.is_pair.Given as goal

abbrev pub test : List ℕ → ℕ → ℕ → Bool
test t p i = eqb (get_or t (6 * i) 0) p && eqb (get_or t (6 * i + 3) 0) 3

abbrev pub invariant-loop-i : goal.invariant-loop-i
invariant-loop-i l = some_below (test l.edges l.p) l.i ≡ false
