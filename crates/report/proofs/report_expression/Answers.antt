use native.Mathlib.Omega.{arith}
use Prim.Native.Nat.{◌≤◌}
use Rattle.usage.specs.Reasons.{number_of}
use Rattle.usage.specs.Limits.{most_nodes}
use Rattle.sheet_expression.proofs.AnswerLaws.{expression-held, expression-refused-as}
use Rattle.report.specs.Expression.{expression_printed, expression_room}
use Rattle.report.proofs.OutputLaws.{no_room}
use Rattle.report.proofs.ExpressionLaws.{held-short, printed-nodes, refused-short, printed-refusal}
use borrow.Author.Rules.{rules}
use Rattle.report.proofs.report_expression.Goals as goal

pub returns-then-out-lt-EXPRESSION_ROOM : goal.returns-then-out-lt-EXPRESSION_ROOM
returns-then-out-lt-EXPRESSION_ROOM c =
    let a = c.args in
    let y = no_room expression_room a.out.now (expression_printed a.text.now) c.if-out-lt-EXPRESSION_ROOM.true in
    record { value = y.0; out_after = y.1 }

pub overflow_mul-n : goal.overflow_mul-n
overflow_mul-n c =
    let a = c.args in
    let p = c.read_expression in
    let n = c.in-Ok.n in
    let h = expression-held a.text.now p.new.table n (rw c.in-Ok.is at p.ensures.result_value) p.ensures.table_after in
    let f : n ≤ most_nodes = h.few in
    search rules

pub slice_bounds-sheet-end : goal.slice_bounds-sheet-end
slice_bounds-sheet-end c =
    let a = c.args in
    let p = c.read_expression in
    let n = c.in-Ok.n in
    let h = expression-held a.text.now p.new.table n (rw c.in-Ok.is at p.ensures.result_value) p.ensures.table_after in
    let f : n ≤ most_nodes = h.few in
    search rules

pub sheet-requires : goal.sheet-requires
sheet-requires c =
    let a = c.args in
    let p = c.read_expression in
    let n = c.in-Ok.n in
    let h = expression-held a.text.now p.new.table n (rw c.in-Ok.is at p.ensures.result_value) p.ensures.table_after in
    let l = held-short a.text.now p.new.table n h in
    omega arith

pub refused-requires : goal.refused-requires
refused-requires c =
    let a = c.args in
    let p = c.read_expression in
    let z = expression-refused-as a.text.now c.in-Err.r.line (number_of c.in-Err.r.reason) (rw c.in-Err.is at p.ensures.result_value) in
    let l = refused-short a.text.now c.in-Err.r.line (number_of c.in-Err.r.reason) z in
    omega arith

pub returns-in-Ok : goal.returns-in-Ok
returns-in-Ok c =
    let a = c.args in
    let p = c.read_expression in
    let n = c.in-Ok.n in
    let h = expression-held a.text.now p.new.table n (rw c.in-Ok.is at p.ensures.result_value) p.ensures.table_after in
    let s = c.sheet in
    let y = printed-nodes a.text.now p.new.table n h a.out.now c.if-out-lt-EXPRESSION_ROOM.false s.ensures.value s.ensures.out_after in
    record { value = y.0; out_after = y.1 }

pub returns-in-Err : goal.returns-in-Err
returns-in-Err c =
    let a = c.args in
    let p = c.read_expression in
    let z = expression-refused-as a.text.now c.in-Err.r.line (number_of c.in-Err.r.reason) (rw c.in-Err.is at p.ensures.result_value) in
    let y = printed-refusal a.text.now c.in-Err.r.line (number_of c.in-Err.r.reason) z a.out.now c.if-out-lt-EXPRESSION_ROOM.false (c.refused.ensures.value, c.refused.ensures.out_after) in
    record { value = y.0; out_after = y.1 }
