use mathlib.Core.Bool.{false}
use Rattle.desk_positions.specs.Closure.{member}
use Rattle.desk_positions.specs.Positions.{same_meanings}
use Rattle.desk_positions.specs.Rows.{rows_in}
use mathlib.Core.Path.{◌≡◌}
use Prim.Native.Nat.{◌≤◌}
use Rattle.desk_positions.proofs.rows.find.Given as goal

abbrev pub invariant-loop-i : goal.invariant-loop-i
invariant-loop-i l = (l.i ≤ l.n) × (member same_meanings l.r (rows_in l.t l.i) ≡ false)
