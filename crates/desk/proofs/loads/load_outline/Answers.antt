use mathlib.Core.Path.{subst}
use Rattle.sheet_reader.proofs.AnswerLaws.{outline-held, outline-refused-as}
use Rattle.desk.specs.Calls.{Called, ByOutline}
use Rattle.desk.proofs.OutlineLoadLaws.{outline-line, outline-no-sheet, outline-loaded, nodes-read, nodes-valid, node-room}
use Rattle.usage.specs.Reasons.{number_of}
use mathlib.Core.Path.{sym}
use Prim.Native.Nat.{ℕ, ◌≤◌}
use borrow.Author.Rules.{rules}
use Rattle.desk.proofs.loads.load_outline.Goals as goal

-- src/loads.rt:270:46
pub refused_at-requires : goal.refused_at-requires
refused_at-requires c =
    let a = c.args in
    let t = c.read_outline in
    outline-line a.text.now c.in-Err.r.line (number_of c.in-Err.r.reason) (outline-refused-as a.text.now c.in-Err.r.line (number_of c.in-Err.r.reason) (rw c.in-Err.is at t.ensures.result_value))

-- src/loads.rt:272:21
pub overflow_mul-m : goal.overflow_mul-m
overflow_mul-m c =
    let a = c.args in
    let t = c.read_outline in
    let h = outline-held a.text.now t.new.table c.in-Ok.n (rw c.in-Ok.is at t.ensures.result_value) t.ensures.table_after in
    let f : c.in-Ok.n ≤ 64 = h.few in
    search rules

-- src/loads.rt:273:32
pub slice_bounds-keep_outline-end : goal.slice_bounds-keep_outline-end
slice_bounds-keep_outline-end c =
    let a = c.args in
    let t = c.read_outline in
    let h = outline-held a.text.now t.new.table c.in-Ok.n (rw c.in-Ok.is at t.ensures.result_value) t.ensures.table_after in
    let f : c.in-Ok.n ≤ 64 = h.few in
    search rules

-- src/loads.rt:273:13
pub keep_outline-requires : goal.keep_outline-requires
keep_outline-requires c =
    let a = c.args in
    let p = c.requires in
    let t = c.read_outline in
    let h = outline-held a.text.now t.new.table c.in-Ok.n (rw c.in-Ok.is at t.ensures.result_value) t.ensures.table_after in
    let v = nodes-valid a.text.now t.new.table c.in-Ok.n h in
    record { desk_bytes_in_bounds = p.desk_bytes_in_bounds; head_is_ok = p.head_is_ok; policies_loaded = p.policies_loaded; edges_valid = p.edges_valid; nodes_valid = v; nodes_len_bound = node-room _ v }

-- src/loads.rt:258:1
pub returns-in-Err : goal.returns-in-Err
returns-in-Err c =
    let a = c.args in
    let p = c.requires in
    let t = c.read_outline in
    subst (λ (r : ℕ). Called (ByOutline a.text.now) a.b.now r a.b.now) (sym c.refused_at.ensures)
    (outline-no-sheet a.text.now a.b.now a.h p.desk_bytes_in_bounds p.is_loaded p.is_free c.in-Err.r.line (number_of c.in-Err.r.reason)
    (outline-refused-as a.text.now c.in-Err.r.line (number_of c.in-Err.r.reason) (rw c.in-Err.is at t.ensures.result_value)))

-- src/loads.rt:258:1
pub returns-in-Ok : goal.returns-in-Ok
returns-in-Ok c =
    let a = c.args in
    let p = c.requires in
    let t = c.read_outline in
    let h = outline-held a.text.now t.new.table c.in-Ok.n (rw c.in-Ok.is at t.ensures.result_value) t.ensures.table_after in
    outline-loaded a.text.now a.b.now a.h p.desk_bytes_in_bounds p.is_loaded p.is_free _ h.rows _ _ h.result
    (nodes-read a.text.now t.new.table c.in-Ok.n h) c.keep_outline.ensures
