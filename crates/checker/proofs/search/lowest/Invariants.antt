use Rattle.usage.specs.Tables.{edges_of, nodes_of}
use Rattle.usage.specs.Check.{Leaves}
use Prim.Native.Nat.{ℕ, ◌<◌}
use Rattle.checker.proofs.search.lowest.Given as goal

abbrev pub invariant-loop-p : goal.invariant-loop-p
invariant-loop-p l = (s : ℕ) → s < l.p → Leaves l.local (edges_of l.edges) (nodes_of l.nodes) s → ⊥
