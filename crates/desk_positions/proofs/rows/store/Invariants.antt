use Prim.Native.Nat.{◌*◌}
use Rattle.desk_positions.specs.Bytes.{word_at, Put}
use Rattle.desk_positions.specs.Rows.{row_width, row_bytes}
use mathlib.Core.Path.{◌≡◌}
use Prim.Native.Nat.{◌≤◌}
use lib.ListN.{length}
use Rattle.desk_positions.proofs.rows.store.Given as goal

abbrev pub invariant-loop-j : goal.invariant-loop-j
invariant-loop-j l =
    (l.j ≤ row_width) × ((length l.t ≡ length l.initial.t) × Put word_at 4 l.initial.t (row_bytes * l.i) l.j l.r l.t)
