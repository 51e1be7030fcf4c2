use borrow.Author.Tests.{lt-leb}
use Rattle.usage.proofs.Logic.{not-true, not-false}
use Rattle.desk_positions.specs.Positions.{most_parts}
use Rattle.desk_positions.specs.Rows.{row_in}
use Rattle.desk_positions.specs.Reading.{row_ok}
use Rattle.desk_positions.proofs.CellLaws.{length-row_in}
use Rattle.desk_positions.proofs.ReadingLaws.{part-fails, row-decided}
use Prim.Native.Nat.{◌<◌}
use lib.ListN.{get_or}
use Rattle.desk_positions.proofs.reading.row_ok.Goals as goal

-- src/reading.rt:88:9
pub returns-then-depth-gt-MOST_PARTS : goal.returns-then-depth-gt-MOST_PARTS
unfolding row_ok
returns-then-depth-gt-MOST_PARTS c =
    let a = c.args in
    let h : most_parts < get_or (row_in a.t.now a.i) 0 0 = rw c.cell-depth.ensures at c.if-depth-gt-MOST_PARTS.true in
    simp (lt-leb _ _ h)

-- src/reading.rt:91:9
pub returns-then-not-parts_ok : goal.returns-then-not-parts_ok
returns-then-not-parts_ok c =
    let a = c.args in
    let o = c.parts_ok in
    let d = c.cell-depth in
    part-fails (row_in a.t.now a.i) (length-row_in a.t.now a.i) d.result d.ensures
    (o.ensures.some_misfits (not-true o.result c.if-not-parts_ok.true-raw))

-- src/reading.rt:82:1
pub returns : goal.returns
returns c =
    let a = c.args in
    let o = c.parts_ok in
    let d = c.cell-depth in
    let z = c.zeros_from in
    row-decided (row_in a.t.now a.i) (length-row_in a.t.now a.i) d.result d.ensures c.if-depth-gt-MOST_PARTS.false
    (o.ensures.part_fits (not-false o.result c.if-not-parts_ok.false-raw)) z.result z.ensures.zeros_from z.ensures.no_zeros
