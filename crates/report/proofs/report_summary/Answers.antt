use native.Mathlib.Omega.{arith}
use Prim.Native.Nat.{◌≤◌}
use Rattle.usage.specs.Reasons.{number_of}
use Rattle.usage.specs.Limits.{most_edges}
use Rattle.sheet_reader.proofs.AnswerLaws.{policies-held, policies-choice, policies-refused}
use Rattle.report.proofs.OutputLaws.{policies-short}
use Rattle.report.proofs.SummaryLaws.{edges-marks, edges-no-marks, edges-table, summary-no-room, summary-put}
use borrow.Author.Rules.{rules}
use Rattle.report.proofs.report_summary.Goals as goal

pub returns-then-out-lt-SUMMARY_ROOM : goal.returns-then-out-lt-SUMMARY_ROOM
returns-then-out-lt-SUMMARY_ROOM c =
    let a = c.args in
    let y = summary-no-room a.policies.now a.outline.now a.out.now (omega arith) in
    record { value = y.0; out_after = y.1.0; right_summary = y.1.1 }

pub overflow_mul-n : goal.overflow_mul-n
overflow_mul-n c =
    let a = c.args in
    let p = c.read_policies in
    let n = c.in-Ok.field-0.edges in
    let h = policies-held a.policies.now p.new.table n c.in-Ok.field-0.local c.in-Ok.ensures.result_value p.ensures.table_after in
    let f : n ≤ most_edges = h.few in
    search rules

pub slice_bounds-of_text-end : goal.slice_bounds-of_text-end
slice_bounds-of_text-end c =
    let a = c.args in
    let p = c.read_policies in
    let n = c.in-Ok.field-0.edges in
    let h = policies-held a.policies.now p.new.table n c.in-Ok.field-0.local c.in-Ok.ensures.result_value p.ensures.table_after in
    let f : n ≤ most_edges = h.few in
    search rules

pub of_text-requires : goal.of_text-requires
of_text-requires c =
    let a = c.args in
    let p = c.read_policies in
    let n = c.in-Ok.field-0.edges in
    let h = policies-held a.policies.now p.new.table n c.in-Ok.field-0.local c.in-Ok.ensures.result_value p.ensures.table_after in
    record { edge_table = edges-table a.policies.now p.new.table n h; summary_room_in_bounds = search rules }

pub refused-requires : goal.refused-requires
refused-requires c =
    let a = c.args in
    let p = c.read_policies in
    let z = policies-refused a.policies.now c.in-Err.r.line (number_of c.in-Err.r.reason) (rw c.in-Err.is at p.ensures.result_value) in
    let l = policies-short a.policies.now c.in-Err.r.line (number_of c.in-Err.r.reason) z in
    omega arith

pub returns-in-Ok : goal.returns-in-Ok
returns-in-Ok c =
    let a = c.args in
    let p = c.read_policies in
    let n = c.in-Ok.field-0.edges in
    let h = policies-held a.policies.now p.new.table n c.in-Ok.field-0.local c.in-Ok.ensures.result_value p.ensures.table_after in
    let choice = policies-choice a.policies.now n c.in-Ok.field-0.local c.in-Ok.ensures.result_value in
    let y = summary-put a.policies.now a.outline.now a.out.now (omega arith)
    (edges-marks a.policies.now a.outline.now a.out.now p.new.table n h
    (rw choice at c.of_text.ensures)) in
    record { value = y.0; out_after = y.1.0; right_summary = y.1.1 }

pub returns-in-Err : goal.returns-in-Err
returns-in-Err c =
    let a = c.args in
    let p = c.read_policies in
    let z = policies-refused a.policies.now c.in-Err.r.line (number_of c.in-Err.r.reason) (rw c.in-Err.is at p.ensures.result_value) in
    let y = summary-put a.policies.now a.outline.now a.out.now (omega arith)
    (edges-no-marks a.policies.now a.outline.now a.out.now c.in-Err.r.line (number_of c.in-Err.r.reason) z (c.refused.ensures.value, c.refused.ensures.out_after)) in
    record { value = y.0; out_after = y.1.0; right_summary = y.1.1 }
