use mathlib.Core.List.{List, []}
use Rattle.usage.specs.Valid.{OutlineOk}
use Rattle.usage.specs.Tables.{nodes_of}
use Rattle.desk_positions.specs.Positions.{Position, stride_all}
use Rattle.desk_positions.specs.Growth.{Tabled}
use Rattle.desk_positions.specs.Moves.{step_of}
use mathlib.Core.Path.{◌≡◌}
use Prim.Native.Nat.{◌≤◌}
use lib.ListN.{take}
use Rattle.desk_positions.proofs.strides.leads_from.Given as goal

abbrev pub invariant-loop-i : goal.invariant-loop-i
invariant-loop-i l =
    (l.i ≤ l.n) × ((ls : List Position) → OutlineOk (nodes_of l.nodes) → Tabled ls l.n l.t → stride_all (nodes_of l.nodes) (step_of l.step) (take l.i ls) ≡ [])
