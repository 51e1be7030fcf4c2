-- `trace_rows` meets its contract.
use native.Mathlib.Omega.{arith}
use Prim.Native.Nat.{◌-◌, ◌*◌, ◌≤◌}
use lib.ListN.{length-take}
use mathlib.Core.Path.{◌≡◌}
use Rattle.usage.specs.Reasons.{number_of}
use Rattle.report_lines.specs.Put.{put_at, end_at}
use Rattle.usage.specs.Limits.{most_steps}
use Rattle.sheet_lines.specs.Sheets.{trace_sheet}
use Rattle.sheet_reader.proofs.AnswerLaws.{trace-held, trace-refused}
use Rattle.sheet_reader.proofs.RefusalLaws.{sheet-low}
use Rattle.report_lines.specs.Lines.{numbered_row_lem}
use Rattle.report_lines.proofs.RowLaws.{numbered-sixteen}
use Rattle.report_lines.proofs.FitLaws.{stored_at}
use Rattle.report_desk.specs.Printed.{no_trace}
use Rattle.report_desk.proofs.PrintedLaws.{rows_right, one-row, trace-judged}
use borrow.Author.Rules.{rules}
use Rattle.report_desk.proofs.trace_rows.Goals as goal

pub overflow_mul-n : goal.overflow_mul-n
overflow_mul-n c =
    let a = c.args in
    let r = c.read_trace in
    let n = c.in-Ok.n in
    let h = trace-held a.trace.now r.new.table n (rw c.in-Ok.is at r.ensures.result_value) r.ensures.table_after in
    let f : n ≤ most_steps = h.few in
    search rules

pub slice_bounds-judged_rows-end : goal.slice_bounds-judged_rows-end
slice_bounds-judged_rows-end c =
    let a = c.args in
    let r = c.read_trace in
    let n = c.in-Ok.n in
    let h = trace-held a.trace.now r.new.table n (rw c.in-Ok.is at r.ensures.result_value) r.ensures.table_after in
    let f : n ≤ most_steps = h.few in
    search rules

pub judged_rows-requires : goal.judged_rows-requires
judged_rows-requires c =
    let a = c.args in
    let r = c.read_trace in
    let n = c.in-Ok.n in
    let h = trace-held a.trace.now r.new.table n (rw c.in-Ok.is at r.ensures.result_value) r.ensures.table_after in
    let f : n ≤ most_steps = h.few in
    let k = length-take (n * 3 - 0) r.new.table in
    record { steps_len_bound = omega arith; rows_room_in_bounds = omega arith }

pub returns-in-Ok : goal.returns-in-Ok
returns-in-Ok c =
    let a = c.args in
    let r = c.read_trace in
    let n = c.in-Ok.n in
    let h = trace-held a.trace.now r.new.table n (rw c.in-Ok.is at r.ensures.result_value) r.ensures.table_after in
    let f : n ≤ most_steps = h.few in
    rows_right (trace-judged a.trace.now r.new.table a.state.now n a.verdict h) c.judged_rows.ensures

pub returns-in-Err : goal.returns-in-Err
returns-in-Err c =
    let a = c.args in
    let r = c.read_trace in
    let w : (c.numbered_row.result ≡ end_at a.out.now a.at (numbered_row_lem c.in-Err.r.line 4 (number_of c.in-Err.r.reason) 0))
    × (c.numbered_row.new.out ≡ put_at a.out.now a.at (numbered_row_lem c.in-Err.r.line 4 (number_of c.in-Err.r.reason) 0)) =
    rw (← c.from.ensures) (c.numbered_row.ensures.value, c.numbered_row.ensures.out_after) in
    let z = trace-refused a.trace.now c.in-Err.r.line (number_of c.in-Err.r.reason) (rw c.in-Err.is at r.ensures.result_value) in
    let l = sheet-low trace_sheet a.trace.now record { line = c.in-Err.r.line; number = (number_of c.in-Err.r.reason) } z in
    let u = l.line in
    let v = l.number in
    let k = numbered-sixteen c.in-Err.r.line 4 (number_of c.in-Err.r.reason) 0 (omega arith) (omega arith) (omega arith) (omega arith) in
    let p = c.requires in
    let s = stored_at a.out.now a.at (numbered_row_lem c.in-Err.r.line 4 (number_of c.in-Err.r.reason) 0) (omega arith) w.0 w.1 in
    one-row (numbered_row_lem c.in-Err.r.line 4 (number_of c.in-Err.r.reason) 0) (no_trace z) k s.0 s.1
