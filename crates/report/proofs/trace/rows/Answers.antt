use native.Mathlib.Omega.{arith}
use Prim.Native.Nat.{◌-◌, ◌*◌, ◌≤◌}
use lib.ListN.{length-take}
use Rattle.usage.specs.Reasons.{number_of}
use Rattle.usage.specs.Limits.{most_steps}
use Rattle.sheet_lines.specs.Sheets.{trace_sheet}
use Rattle.sheet_reader.proofs.AnswerLaws.{trace-held, trace-refused}
use Rattle.sheet_reader.proofs.RefusalLaws.{sheet-low}
use Rattle.report_lines.specs.Lines.{row}
use Rattle.report_lines.proofs.RowLaws.{row_fits}
use Rattle.report_lines.proofs.FitLaws.{stored_at}
use Rattle.report.proofs.TraceLaws.{rows-held, row-refused}
use borrow.Author.Rules.{rules}
use Rattle.report.proofs.trace.rows.Goals as goal

pub overflow_mul-n : goal.overflow_mul-n
overflow_mul-n c =
    let a = c.args in
    let r = c.read_trace in
    let n = c.in-Ok.n in
    let h = trace-held a.text.now r.new.table n (rw c.in-Ok.is at r.ensures.result_value) r.ensures.table_after in
    let f : n ≤ most_steps = h.few in
    search rules

pub slice_bounds-judge_all-end : goal.slice_bounds-judge_all-end
slice_bounds-judge_all-end c =
    let a = c.args in
    let r = c.read_trace in
    let n = c.in-Ok.n in
    let h = trace-held a.text.now r.new.table n (rw c.in-Ok.is at r.ensures.result_value) r.ensures.table_after in
    let f : n ≤ most_steps = h.few in
    search rules

pub judge_all-requires : goal.judge_all-requires
judge_all-requires c =
    let a = c.args in
    let r = c.read_trace in
    let n = c.in-Ok.n in
    let h = trace-held a.text.now r.new.table n (rw c.in-Ok.is at r.ensures.result_value) r.ensures.table_after in
    let f : n ≤ most_steps = h.few in
    let k = length-take (n * 3 - 0) r.new.table in
    record { steps_len_bound = omega arith; step_fields_in_bounds = omega arith }

pub returns-in-Ok : goal.returns-in-Ok
returns-in-Ok c =
    let a = c.args in
    let r = c.read_trace in
    let n = c.in-Ok.n in
    let h = trace-held a.text.now r.new.table n (rw c.in-Ok.is at r.ensures.result_value) r.ensures.table_after in
    let j = c.judge_all in
    let e = rows-held a.edges.now a.local a.text.now r.new.table n h in
    record { value = rw e j.ensures.value; out_after = rw e j.ensures.out_after }

pub returns-in-Err : goal.returns-in-Err
returns-in-Err c =
    let a = c.args in
    let r = c.read_trace in
    let w = c.refusal_row in
    let z = trace-refused a.text.now c.in-Err.r.line (number_of c.in-Err.r.reason) (rw c.in-Err.is at r.ensures.result_value) in
    let e = row-refused a.edges.now a.local a.text.now r.new.table c.in-Err.r.line (number_of c.in-Err.r.reason) z in
    let l = sheet-low trace_sheet a.text.now record { line = c.in-Err.r.line; number = (number_of c.in-Err.r.reason) } z in
    let m = l.line in
    let n = l.number in
    let k = row_fits c.in-Err.r.line 4 (number_of c.in-Err.r.reason) (omega arith) (omega arith) (omega arith) in
    let v = stored_at a.out.now a.at (row c.in-Err.r.line 4 (number_of c.in-Err.r.reason)) (omega arith) w.ensures.value w.ensures.out_after in
    record { value = rw e v.0; out_after = rw e v.1 }
