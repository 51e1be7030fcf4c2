-- What a reader has stored has room in its table.
use Prim.Native.Nat.{◌≤◌}
use Rattle.usage.specs.Limits.{most_edges}
use Rattle.sheet_reader.proofs.AnswerLaws.{policies-held}
use borrow.Author.Rules.{rules}
use Rattle.test_stored.proofs.counterexamples.sheets.Goals as goal

pub overflow_mul-sheet : goal.overflow_mul-sheet
overflow_mul-sheet g c =
    let a = c.args in
    let r = c.read_policies in
    let n = c.in-Ok.sheet.edges in
    let h = policies-held a.policies.now r.new.table n c.in-Ok.sheet.local (rw c.in-Ok.is at r.ensures.result_value) r.ensures.table_after in
    let f : n ≤ most_edges = h.few in
    search rules

pub slice_bounds-outline-end : goal.slice_bounds-outline-end
slice_bounds-outline-end g c =
    let a = c.args in
    let r = c.read_policies in
    let n = c.in-Ok.sheet.edges in
    let h = policies-held a.policies.now r.new.table n c.in-Ok.sheet.local (rw c.in-Ok.is at r.ensures.result_value) r.ensures.table_after in
    let f : n ≤ most_edges = h.few in
    search rules
