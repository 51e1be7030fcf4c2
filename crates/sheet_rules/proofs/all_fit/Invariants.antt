use Rattle.usage.specs.Tables.{node_at_lem}
use Rattle.usage.specs.Tests.{node_ok}
use Prim.Native.Nat.{ℕ, ◌<◌}
use mathlib.Core.Bool.{true}
use mathlib.Core.Path.{◌≡◌}
use Rattle.sheet_rules.proofs.all_fit.Given as goal

abbrev pub invariant-loop-k : goal.invariant-loop-k
invariant-loop-k l = ((i : ℕ) → i < l.k → node_ok (node_at_lem l.table i) ≡ true)
