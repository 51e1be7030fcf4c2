use Rattle.std.proofs.lemmas.Result.{err_from_is_err_and}
use Rattle.usage.specs.Limits.{node_places}
use Rattle.sheet_lines.specs.Sheet.{sheet}
use Rattle.sheet_lines.specs.Sheets.{outline_sheet}
use Rattle.sheet_reader.specs.Readers.{roomy, ruled_result, outline_into}
use Rattle.sheet_reader.proofs.ReaderLaws.{refused-reads, refusal-result, Kept, kept, few, bounded}
use Rattle.sheet_reader.proofs.Below.{nodes-below}
use Rattle.sheet_reader.proofs.OutlineLaws.{outline-refused, outline-stores, refused-before}
use native.Mathlib.Omega.{arith}
use mathlib.Core.Path.{sym, ◌∙◌}
use lib.ListN.{length}
use Rattle.sheet_reader.proofs.read_outline.Goals as goal

pub returns-in_err-n : goal.returns-in_err-n
unfolding outline_into
returns-in_err-n c =
    let a = c.args in
    let p = length a.table.now in
    let r = sheet outline_sheet a.text.now in
    let e = refusal-result (roomy p node_places r) _ _ c.in_err-n.ensures.result_value in
    let h = refused-reads (roomy p node_places (ruled_result r)) a.table.now _ _ (refused-before p node_places r _ _ e) in
    let q = err_from_is_err_and c.from_residual.result c.from_residual.ensures.1 in
    record { result_value = rw (q.1, q.2) h.answers; table_after = h.table }

pub checked-requires : goal.checked-requires
checked-requires c =
    let k : Kept outline_sheet (length c.args.table.now) node_places c.args.text.now c.read.new.buffer c.in_ok-n.n = kept outline_sheet _ node_places _ _ _ _ c.in_ok-n.ensures.result_value c.in_ok-n.ensures.buffer_after in
    record { n_le_most_nodes = few outline_sheet _ _ _ _ _ k; by_index = bounded outline_sheet _ _ _ _ _ k 256 (omega arith) (nodes-below k.ok.each) }

pub store_nodes-requires : goal.store_nodes-requires
store_nodes-requires c =
    let k : Kept outline_sheet (length c.args.table.now) node_places c.args.text.now c.read.new.buffer c.in_ok-n.n = kept outline_sheet _ node_places _ _ _ _ c.in_ok-n.ensures.result_value c.in_ok-n.ensures.buffer_after in
    let f = few outline_sheet _ _ _ _ _ k in
    let l = k.room in
    record { n_le_most_nodes = omega arith; nodes_in_bounds = omega arith; by_index = bounded outline_sheet _ _ _ _ _ k 256 (omega arith) (nodes-below k.ok.each) }

pub returns-in_err-checked : goal.returns-in_err-checked
unfolding outline_into
returns-in_err-checked c =
    let a = c.args in
    let k : Kept outline_sheet (length c.args.table.now) node_places c.args.text.now c.read.new.buffer c.in_ok-n.n = kept outline_sheet _ node_places _ _ _ _ c.in_ok-n.ensures.result_value c.in_ok-n.ensures.buffer_after in
    let e = outline-refused _ _ _ _ _ k _ _ (sym c.in_err-checked.ensures) in
    let h = refused-reads (roomy (length a.table.now) node_places (ruled_result (sheet outline_sheet a.text.now)))
    a.table.now _ _ e in
    let q = err_from_is_err_and c.from_residual-in_err-checked.result c.from_residual-in_err-checked.ensures.1 in
    record { result_value = rw (q.1, q.2) h.answers; table_after = h.table }

pub returns : goal.returns
unfolding outline_into
returns c =
    let k : Kept outline_sheet (length c.args.table.now) node_places c.args.text.now c.read.new.buffer c.in_ok-n.n = kept outline_sheet _ node_places _ _ _ _ c.in_ok-n.ensures.result_value c.in_ok-n.ensures.buffer_after in
    let t = c.args.table.now in
    let h = outline-stores _ _ _ _ _ k t
    (sym c.in_ok-checked.ensures) in
    record { result_value = h.answers; table_after = c.store_nodes.ensures ∙ h.table }
