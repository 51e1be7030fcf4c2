use mathlib.Core.List.{List}
use Rattle.usage.specs.Valid.{OutlineOk}
use Rattle.usage.specs.Tables.{nodes_of}
use Rattle.desk_positions.specs.Positions.{most_positions, Position}
use Rattle.desk_positions.specs.Rows.{table_bytes}
use Rattle.desk_positions.specs.Growth.{Tabled}
use Rattle.desk_positions.proofs.SettleLaws.{Under}
use mathlib.Core.Path.{◌≡◌}
use Prim.Native.Nat.{◌-◌, ◌≤◌}
use lib.ListN.{length}
use Rattle.desk_positions.proofs.silent.spread.Given as goal

abbrev pub invariant-loop-i : goal.invariant-loop-i
invariant-loop-i l =
    (l.i ≤ most_positions) × ((l.m ≤ most_positions) × ((length l.t ≡ table_bytes)
    × ((ls : List Position) → OutlineOk (nodes_of l.nodes) → Tabled ls l.n l.initial.t → Under (nodes_of l.nodes) ls l.i l.m l.t)))

abbrev pub decreases-loop-i : goal.decreases-loop-i
decreases-loop-i l = most_positions - l.i
