use mathlib.Core.Path.{◌≡◌}
use mathlib.Core.Bool.{Bool, false, not}
use mathlib.Core.List.{List}
use Prim.Native.Nat.{ℕ}
use Rattle.usage.specs.Tests.{some_below}
use Rattle.checker_account.specs.Filling.{forms_in}
use Rattle.checker_tables.specs.Search.{small}
use Rattle.checker_tables.proofs.fits.Given as goal

abbrev pub big : List ℕ → ℕ → Bool
big t k = not (small (forms_in t k))

abbrev pub invariant-loop-k : goal.invariant-loop-k
invariant-loop-k l =
    some_below (big l.nodes) l.k ≡ false
