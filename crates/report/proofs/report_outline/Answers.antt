use native.Mathlib.Omega.{arith}
use Prim.Native.Nat.{ℕ, ◌≤◌}
use mathlib.Core.List.{List}
use Rattle.usage.specs.Reasons.{number_of}
use Rattle.usage.specs.Limits.{most_edges}
use Rattle.usage.specs.Answers.{Verdict, allowed}
use Rattle.sheet_lines.specs.Sheet.{sheet}
use Rattle.sheet_lines.specs.Sheets.{outline_sheet}
use Rattle.sheet_reader.specs.Readers.{ruled_result}
use Rattle.sheet_reader.proofs.AnswerLaws.{policies-held, policies-choice, policies-refused}
use Rattle.report.specs.Output.{outline_room}
use Rattle.report.specs.Outline.{nodes_row, outline_printed}
use Rattle.report.proofs.OutputLaws.{names-end, names-length, printed-held, printed-refused}
use Rattle.report.proofs.OutlineLaws.{outline-no-room, outline-put, right-held, right-refused}
use borrow.Author.Rules.{rules}
use Rattle.report.proofs.report_outline.Goals as goal

-- what is printed with the edges, by the verdict that is right
abbrev rest : List ℕ → Verdict → List ℕ → List ℕ
rest text v edges = nodes_row (ruled_result (sheet outline_sheet text)) v

pub returns-then-out-lt-OUTLINE_ROOM : goal.returns-then-out-lt-OUTLINE_ROOM
returns-then-out-lt-OUTLINE_ROOM c =
    let a = c.args in
    let y = outline-no-room a.policies.now a.outline.now a.out.now (omega arith) in
    record { value = y.0; out_after = y.1.0; right_texts = y.1.1 }

pub overflow_mul-n : goal.overflow_mul-n
overflow_mul-n c =
    let a = c.args in
    let p = c.read_policies in
    let n = c.in-Ok.field-0.edges in
    let h = policies-held a.policies.now p.new.table n c.in-Ok.field-0.local c.in-Ok.ensures.result_value p.ensures.table_after in
    let f : n ≤ most_edges = h.few in
    search rules

pub slice_bounds-row-end : goal.slice_bounds-row-end
slice_bounds-row-end c =
    let a = c.args in
    let p = c.read_policies in
    let n = c.in-Ok.field-0.edges in
    let h = policies-held a.policies.now p.new.table n c.in-Ok.field-0.local c.in-Ok.ensures.result_value p.ensures.table_after in
    let f : n ≤ most_edges = h.few in
    search rules

pub row-requires : goal.row-requires
row-requires c =
    let a = c.args in
    let w = c.names-next in
    let e = names-end a.out.now (omega arith) w.result w.new.out w.ensures.value w.ensures.out_after in
    let l = names-length a.out.now (omega arith) w.result w.new.out w.ensures.value w.ensures.out_after in
    omega arith

pub returns-in-Ok : goal.returns-in-Ok
unfolding outline_printed
returns-in-Ok c =
    let a = c.args in
    let w = c.names-next in
    let p = c.read_policies in
    let t = c.row in
    let n = c.in-Ok.field-0.edges in
    let h = policies-held a.policies.now p.new.table n c.in-Ok.field-0.local c.in-Ok.ensures.result_value p.ensures.table_after in
    let right = right-held a.policies.now a.outline.now p.new.table n h in
    let choice = policies-choice a.policies.now n c.in-Ok.field-0.local c.in-Ok.ensures.result_value in
    let value = rw choice at t.ensures.value in
    let after = rw choice at t.ensures.out_after in
    let one = rw choice at t.ensures.right_nodes in
    let w₀ = one.0 in
    let y = outline-put a.policies.now a.outline.now a.out.now t.result _ w₀ ((right w₀).1 one.1) (λ v l.
    let r = value v ((right v).0 l) in
    let b = t.ensures.upper_bound in
    printed-held a.out.now (omega arith) w.result w.new.out w.ensures.value w.ensures.out_after outline_room a.policies.now
    (rest a.outline.now v)
    (omega arith) (omega arith) p.new.table n h r (after v ((right v).0 l)) (omega arith)) in
    record { value = y.0; out_after = y.1.0; right_texts = y.1.1 }

pub returns-in-Err : goal.returns-in-Err
unfolding outline_printed
returns-in-Err c =
    let a = c.args in
    let w = c.names-next in
    let p = c.read_policies in
    let t = c.refusal_row in
    let z = policies-refused a.policies.now c.in-Err.r.line (number_of c.in-Err.r.reason) (rw c.in-Err.is at p.ensures.result_value) in
    let right = right-refused a.policies.now a.outline.now c.in-Err.r.line (number_of c.in-Err.r.reason) z in
    let y = outline-put a.policies.now a.outline.now a.out.now t.result _ allowed (right allowed) (λ v l.
    printed-refused a.out.now (omega arith) w.result w.new.out w.ensures.value w.ensures.out_after outline_room a.policies.now
    (rest a.outline.now v)
    (omega arith) (omega arith) c.in-Err.r.line (number_of c.in-Err.r.reason) z t.ensures.value t.ensures.out_after) in
    record { value = y.0; out_after = y.1.0; right_texts = y.1.1 }
