use native.Mathlib.Omega.{arith}
use Prim.Native.Nat.{ℕ, ◌-◌, ◌*◌, ◌≤◌}
use mathlib.Core.Bool.{Bool}
use mathlib.Core.List.{List}
use lib.ListN.{take}
use Rattle.usage.specs.Reasons.{number_of}
use Rattle.usage.specs.Limits.{most_edges}
use Rattle.sheet_lines.specs.Sheet.{sheet}
use Rattle.sheet_lines.specs.Sheets.{trace_sheet, is_local}
use Rattle.sheet_reader.proofs.AnswerLaws.{policies-held, policies-choice, policies-refused}
use Rattle.report.specs.Output.{trace_room}
use Rattle.report.specs.Trace.{trace_rows, trace_printed}
use Rattle.report.proofs.OutputLaws.{no_room, names-end, names-length, printed-held, printed-refused}
use Rattle.report.proofs.TraceLaws.{rows_fit}
use borrow.Author.Rules.{rules}
use Rattle.report.proofs.report_trace.Goals as goal

-- what is printed with the edges
abbrev rest : Bool → List ℕ → List ℕ → List ℕ
rest local text edges = trace_rows edges local (sheet trace_sheet text)

pub returns-then-out-lt-TRACE_ROOM : goal.returns-then-out-lt-TRACE_ROOM
returns-then-out-lt-TRACE_ROOM c =
    let a = c.args in
    let y = no_room trace_room a.out.now (trace_printed a.policies.now a.trace.now) (omega arith) in
    record { value = y.0; out_after = y.1 }

pub overflow_mul-n : goal.overflow_mul-n
overflow_mul-n c =
    let a = c.args in
    let p = c.read_policies in
    let n = c.in-Ok.field-0.edges in
    let h = policies-held a.policies.now p.new.table n c.in-Ok.field-0.local c.in-Ok.ensures.result_value p.ensures.table_after in
    let f : n ≤ most_edges = h.few in
    search rules

pub slice_bounds-rows-end : goal.slice_bounds-rows-end
slice_bounds-rows-end c =
    let a = c.args in
    let p = c.read_policies in
    let n = c.in-Ok.field-0.edges in
    let h = policies-held a.policies.now p.new.table n c.in-Ok.field-0.local c.in-Ok.ensures.result_value p.ensures.table_after in
    let f : n ≤ most_edges = h.few in
    search rules

pub rows-requires : goal.rows-requires
rows-requires c =
    let a = c.args in
    let w = c.names-at in
    let e = names-end a.out.now (omega arith) w.result w.new.out w.ensures.value w.ensures.out_after in
    let l = names-length a.out.now (omega arith) w.result w.new.out w.ensures.value w.ensures.out_after in
    omega arith

pub returns-in-Ok : goal.returns-in-Ok
unfolding trace_printed
returns-in-Ok c =
    let a = c.args in
    let w = c.names-at in
    let p = c.read_policies in
    let t = c.rows in
    let n = c.in-Ok.field-0.edges in
    let h = policies-held a.policies.now p.new.table n c.in-Ok.field-0.local c.in-Ok.ensures.result_value p.ensures.table_after in
    let choice = policies-choice a.policies.now n c.in-Ok.field-0.local c.in-Ok.ensures.result_value in
    let l = rows_fit (take (n * 6 - 0) p.new.table) (is_local a.policies.now) a.trace.now in
    let y = printed-held a.out.now (omega arith) w.result w.new.out w.ensures.value w.ensures.out_after trace_room a.policies.now
    (rest (is_local a.policies.now) a.trace.now)
    (omega arith) (omega arith) p.new.table n h (rw choice at t.ensures.value) (rw choice at t.ensures.out_after) (omega arith) in
    record { value = y.0; out_after = y.1 }

pub returns-in-Err : goal.returns-in-Err
unfolding trace_printed
returns-in-Err c =
    let a = c.args in
    let w = c.names-at in
    let p = c.read_policies in
    let t = c.refusal_row in
    let z = policies-refused a.policies.now c.in-Err.r.line (number_of c.in-Err.r.reason) (rw c.in-Err.is at p.ensures.result_value) in
    let y = printed-refused a.out.now (omega arith) w.result w.new.out w.ensures.value w.ensures.out_after trace_room a.policies.now
    (rest (is_local a.policies.now) a.trace.now)
    (omega arith) (omega arith) c.in-Err.r.line (number_of c.in-Err.r.reason) z t.ensures.value t.ensures.out_after in
    record { value = y.0; out_after = y.1 }
