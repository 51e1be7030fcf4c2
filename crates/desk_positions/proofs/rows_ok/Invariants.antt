use Rattle.desk_positions.specs.Positions.{most_positions}
use Rattle.desk_positions.specs.Reading.{rows_ok_lem}
use mathlib.Core.Path.{◌≡◌}
use Prim.Native.Nat.{◌≤◌}
use Rattle.desk_positions.proofs.rows_ok.Given as goal

abbrev pub invariant-loop-i : goal.invariant-loop-i
invariant-loop-i l = (l.i ≤ most_positions) × (rows_ok_lem l.t l.n ≡ rows_ok_lem l.t l.i)
