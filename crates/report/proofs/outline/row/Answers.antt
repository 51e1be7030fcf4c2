use native.Mathlib.Omega.{arith}
use Prim.Native.Nat.{◌≤◌}
use mir.Syntax.{w8}
use mir.Val.{Fits}
use Rattle.usage.specs.Reasons.{number_of}
use Rattle.usage.specs.Limits.{most_nodes}
use Rattle.usage.specs.Answers.{allowed}
use Rattle.sheet_reader.proofs.AnswerLaws.{outline-held, outline-refused-as}
use Rattle.checker.specs.Promise.{outcome_verdict}
use Rattle.report.proofs.OutlineLaws.{put-checked, put_refused}
use borrow.Author.Rules.{rules}
use Rattle.report.proofs.outline.row.Goals as goal

pub overflow_mul-n : goal.overflow_mul-n
overflow_mul-n c =
    let a = c.args in
    let r = c.read_outline in
    let n = c.in-Ok.n in
    let h = outline-held a.text.now r.new.table n (rw c.in-Ok.is at r.ensures.result_value) r.ensures.table_after in
    let f : n ≤ most_nodes = h.few in
    search rules

pub slice_bounds-check-end : goal.slice_bounds-check-end
slice_bounds-check-end c =
    let a = c.args in
    let r = c.read_outline in
    let n = c.in-Ok.n in
    let h = outline-held a.text.now r.new.table n (rw c.in-Ok.is at r.ensures.result_value) r.ensures.table_after in
    let f : n ≤ most_nodes = h.few in
    search rules

pub returns-in-Ok : goal.returns-in-Ok
returns-in-Ok c =
    let a = c.args in
    let r = c.read_outline in
    let n = c.in-Ok.n in
    let h = outline-held a.text.now r.new.table n (rw c.in-Ok.is at r.ensures.result_value) r.ensures.table_after in
    let w = c.row in
    let m = c.outcome_number in
    let d = c.outcome_detail in
    let k = c.check-a in
    let room = c.requires in
    let b : Fits w8 d.result = search rules in
    let y = put-checked a.local a.edges.now a.text.now a.out.now w.new.out a.at w.result room r.new.table n h
    (outcome_verdict k.result) m.result d.result k.ensures m.ensures d.ensures b.fits w.ensures.value w.ensures.out_after in
    record { value = y.0; out_after = y.1.0; right_nodes = y.1.1.0; upper_bound = y.1.1.1 }

pub returns-in-Err : goal.returns-in-Err
returns-in-Err c =
    let a = c.args in
    let r = c.read_outline in
    let w = c.refusal_row in
    let z = outline-refused-as a.text.now c.in-Err.r.line (number_of c.in-Err.r.reason) (rw c.in-Err.is at r.ensures.result_value) in
    let y = put_refused a.local a.edges.now a.text.now a.out.now
    w.new.out a.at w.result (omega arith) c.in-Err.r.line (number_of c.in-Err.r.reason) z
    allowed w.ensures.value w.ensures.out_after in
    record { value = y.0; out_after = y.1.0; right_nodes = y.1.1.0; upper_bound = y.1.1.1 }
