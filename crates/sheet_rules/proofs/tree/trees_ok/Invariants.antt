use Rattle.usage.specs.Tables.{nodes_of}
use Rattle.usage.specs.Tests.{tree_ok_lem, lowest_failing}
use mathlib.Core.Path.{◌≡◌}
use Prim.Native.Nat.{◌-◌}
use Rattle.sheet_rules.proofs.tree.trees_ok.Given as goal

abbrev pub invariant-loop-k : goal.invariant-loop-k
invariant-loop-k l =
    (lowest_failing (tree_ok_lem (nodes_of l.table)) l.k (l.n - l.k) ≡ lowest_failing (tree_ok_lem (nodes_of l.table)) 0 l.n)
