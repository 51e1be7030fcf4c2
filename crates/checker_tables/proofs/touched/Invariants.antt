use mathlib.Core.Path.{◌≡◌}
use mathlib.Core.Bool.{Bool, false}
use mathlib.Core.List.{List}
use Prim.Native.Nat.{ℕ}
use Rattle.usage.specs.Tests.{some_below}
use Rattle.checker_account.specs.Filling.{forms_in}
use Rattle.checker_tables.specs.Search.{is_on_lem}
use Rattle.checker_tables.proofs.touched.Given as goal

abbrev pub on : List ℕ → ℕ → ℕ → Bool
on t x k = is_on_lem x (forms_in t k)

abbrev pub invariant-loop-k : goal.invariant-loop-k
invariant-loop-k l =
    some_below (on l.nodes l.x) l.k ≡ false
