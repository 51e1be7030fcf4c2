use Rattle.desk_positions.proofs.CellLaws.{row_is}
use native.Mathlib.Omega.{arith}
use Rattle.desk_positions.proofs.rows.load.Goals as goal

-- src/lib.rt:139:1
pub returns : goal.returns
returns c =
    let a = c.args in
    let t = c.loop-j in
    row_is a.t.now a.i t.cells t.invariant.1.0 (λ k l. t.invariant.1.1 k (omega arith))
