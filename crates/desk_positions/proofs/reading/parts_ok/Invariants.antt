use Rattle.desk_positions.specs.Rows.{row_in}
use Rattle.desk_positions.specs.Reading.{PartFits}
use Prim.Native.Nat.{ℕ, ◌≤◌, ◌<◌}
use Rattle.desk_positions.proofs.reading.parts_ok.Given as goal

abbrev pub invariant-loop-j : goal.invariant-loop-j
invariant-loop-j l = (l.j ≤ l.n) × ((k : ℕ) → k < l.j → PartFits (row_in l.t l.i) k)
