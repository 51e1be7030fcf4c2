-- `refused` meets its contract: the line has room.
use native.Mathlib.Omega.{arith}
use Rattle.report_lines.proofs.RowLaws.{numbered-sixteen}
use Rattle.report_lines.proofs.FitLaws.{stored_at}
use Rattle.report_desk.specs.Printed.{detail_in, line_in, sheet_row}
use Rattle.report_desk.proofs.refused.Goals as goal

pub returns : goal.returns
returns c =
    let a = c.args in
    let p = c.requires in
    let w = c.numbered_row in
    let k = numbered-sixteen (line_in a.code) a.sheet (detail_in a.code) 0 (omega arith) (omega arith) (omega arith) (omega arith) in
    let z = stored_at a.out.now a.at (sheet_row a.sheet a.code) (omega arith) w.ensures.value w.ensures.out_after in
    record { value = z.0; out_after = z.1; code_len_bound = k }
