use mathlib.Core.Bool.{Bool, false}
use mathlib.Core.List.{List}
use mathlib.Core.Path.{◌≡◌}
use Prim.Native.Nat.{ℕ}
use Rattle.usage.specs.Tests.{some_below}
use Rattle.checker_account.specs.Filling.{forms_in}
use Rattle.checker.specs.Code.{is_opening_lem}
use Rattle.checker.proofs.opens.Given as goal

abbrev pub opening : List ℕ → ℕ → ℕ → Bool
opening t p k = is_opening_lem p (forms_in t k)

abbrev pub invariant-loop-k : goal.invariant-loop-k
invariant-loop-k l = some_below (opening l.nodes l.p) l.k ≡ false
