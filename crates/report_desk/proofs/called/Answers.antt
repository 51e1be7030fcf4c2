-- `called` meets its contract: the line has room.
use native.Mathlib.Omega.{arith}
use Rattle.report_lines.proofs.RowLaws.{numbered-sixteen}
use Rattle.report_lines.proofs.FitLaws.{stored_at}
use Rattle.report_desk.specs.Printed.{answer_in, detail_in, lean_in, code_row}
use Rattle.report_desk.proofs.called.Goals as goal

pub returns : goal.returns
returns c =
    let a = c.args in
    let p = c.requires in
    let w = c.numbered_row in
    let k = numbered-sixteen a.line (answer_in a.code) (detail_in a.code) (lean_in a.code) c.requires.line_bound (omega arith) (omega arith) (omega arith) in
    let z = stored_at a.out.now a.at (code_row a.line a.code) (omega arith) w.ensures.value w.ensures.out_after in
    record { value = z.0; out_after = z.1; code_len_bound = k }
