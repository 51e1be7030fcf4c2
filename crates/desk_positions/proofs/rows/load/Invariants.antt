use Prim.Native.Nat.{◌*◌}
use Rattle.desk_positions.specs.Bytes.{word_at}
use Rattle.desk_positions.specs.Rows.{row_width, row_bytes}
use mathlib.Core.Path.{◌≡◌}
use Prim.Native.Nat.{ℕ, ◌+◌, ◌≤◌, ◌<◌}
use lib.ListN.{length, get_or}
use Rattle.desk_positions.proofs.rows.load.Given as goal

abbrev pub invariant-loop-j : goal.invariant-loop-j
invariant-loop-j l =
    (l.j ≤ row_width) × ((length l.cells ≡ row_width) × ((k : ℕ) → k < l.j → get_or l.cells k 0 ≡ word_at l.t (row_bytes * l.i + 4 * k)))
