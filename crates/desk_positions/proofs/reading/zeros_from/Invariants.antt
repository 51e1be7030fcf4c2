use Rattle.desk_positions.specs.Rows.{row_in}
use mathlib.Core.Path.{◌≡◌}
use Prim.Native.Nat.{ℕ, ◌≤◌, ◌<◌}
use lib.ListN.{get_or}
use Rattle.desk_positions.proofs.reading.zeros_from.Given as goal

abbrev pub invariant-loop-k : goal.invariant-loop-k
invariant-loop-k l = (l.n ≤ l.k) × ((m : ℕ) → l.n ≤ m → m < l.k → get_or (row_in l.t l.i) m 0 ≡ 0)
