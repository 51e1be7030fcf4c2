-- What a reader has stored has room in its table.
use Prim.Native.Nat.{◌≤◌}
use Rattle.usage.specs.Limits.{most_nodes}
use Rattle.sheet_reader.proofs.AnswerLaws.{outline-held}
use borrow.Author.Rules.{rules}
use Rattle.test_stored.proofs.lean.outline.Goals as goal

pub overflow_mul-k : goal.overflow_mul-k
overflow_mul-k g c =
    let a = c.args in
    let r = c.read_outline in
    let n = c.in-Ok.k in
    let h = outline-held a.text.now r.new.table n (rw c.in-Ok.is at r.ensures.result_value) r.ensures.table_after in
    let f : n ≤ most_nodes = h.few in
    search rules

pub slice_bounds-judged-end : goal.slice_bounds-judged-end
slice_bounds-judged-end g c =
    let a = c.args in
    let r = c.read_outline in
    let n = c.in-Ok.k in
    let h = outline-held a.text.now r.new.table n (rw c.in-Ok.is at r.ensures.result_value) r.ensures.table_after in
    let f : n ≤ most_nodes = h.few in
    search rules
