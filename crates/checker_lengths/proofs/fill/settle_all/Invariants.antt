use mathlib.Core.List.{List}
use lib.ListN.{length}
use Prim.Native.Nat.{ℕ, ◌/◌, ◌<◌}
use Rattle.usage.specs.Limits.{most_nodes, node_fields}
use Rattle.checker_lengths.specs.declared.WatchOne.{WatchOne}
use Rattle.checker_lengths.proofs.LeftLaws.{Working, left_of}
use Rattle.checker_lengths.proofs.fill.settle_all.Given as goal

abbrev pub Left : WatchOne → List ℕ → List ℕ → List ℕ → ℕ → List ℕ → ℕ → Type 0
Left w rows nodes come l = Working w rows nodes come l (length nodes / node_fields)

abbrev pub invariant-loop-left : goal.invariant-loop-left
invariant-loop-left l = (l.k < most_nodes) × Left l.w l.rows l.nodes l.u l.l l.t l.left

abbrev pub decreases-loop-left : goal.decreases-loop-left
decreases-loop-left l = left_of l.t l.left
