use mathlib.Core.List.{List}
use Rattle.usage.specs.Valid.{OutlineOk}
use Rattle.usage.specs.Tables.{nodes_of}
use Rattle.desk_positions.specs.Positions.{Position}
use Rattle.desk_positions.specs.Rows.{table_bytes, row_in}
use Rattle.desk_positions.specs.Growth.{Tabled}
use Rattle.desk_positions.specs.Moves.{step_of}
use Rattle.desk_positions.proofs.NextLaws.{led}
use mathlib.Core.Path.{◌≡◌}
use Prim.Native.Nat.{ℕ, ◌≤◌}
use lib.ListN.{length}
use Rattle.desk_positions.proofs.strides.collect.Given as goal

abbrev pub invariant-loop-i : goal.invariant-loop-i
invariant-loop-i l =
    (l.i ≤ l.n) × ((l.m ≤ l.i) × ((length l.t ≡ table_bytes) × (((k : ℕ) → l.i ≤ k → row_in l.t k ≡ row_in l.initial.t k)
    × ((ls : List Position) → OutlineOk (nodes_of l.nodes) → Tabled ls l.n l.initial.t → Tabled (led (nodes_of l.nodes) (step_of l.step) ls l.i) l.m l.t))))
