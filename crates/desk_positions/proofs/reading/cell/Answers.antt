use Rattle.desk_positions.proofs.CellLaws.{row-cell}
use mathlib.Core.Path.{sym, ◌∙◌}
use Rattle.desk_positions.proofs.reading.cell.Goals as goal

-- src/reading.rt:17:1
pub returns : goal.returns
returns c =
    let a = c.args in
    c.word.ensures ∙ sym (row-cell a.t.now a.i a.k c.requires.k_lt_row_width)
