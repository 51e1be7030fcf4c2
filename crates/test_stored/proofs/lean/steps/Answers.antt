-- What a reader has stored has room in its table.
use Prim.Native.Nat.{◌≤◌}
use Rattle.usage.specs.Limits.{most_steps}
use Rattle.sheet_reader.proofs.AnswerLaws.{trace-held}
use borrow.Author.Rules.{rules}
use Rattle.test_stored.proofs.lean.steps.Goals as goal

pub overflow_mul-k : goal.overflow_mul-k
overflow_mul-k g c =
    let a = c.args in
    let r = c.read_trace in
    let n = c.in-Ok.k in
    let h = trace-held a.trace_text.now r.new.table n (rw c.in-Ok.is at r.ensures.result_value) r.ensures.table_after in
    let f : n ≤ most_steps = h.few in
    search rules

pub slice_bounds-outline-end : goal.slice_bounds-outline-end
slice_bounds-outline-end g c =
    let a = c.args in
    let r = c.read_trace in
    let n = c.in-Ok.k in
    let h = trace-held a.trace_text.now r.new.table n (rw c.in-Ok.is at r.ensures.result_value) r.ensures.table_after in
    let f : n ≤ most_steps = h.few in
    search rules
