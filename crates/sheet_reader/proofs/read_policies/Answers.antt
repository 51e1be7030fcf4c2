use Rattle.std.proofs.lemmas.Result.{err_from_is_err_and}
use Rattle.usage.specs.Limits.{edge_places}
use Rattle.sheet_lines.specs.Sheets.{policy_sheet, is_local}
use Rattle.sheet_reader.specs.Readers.{policies_read, roomy, policies_into}
use Rattle.sheet_reader.proofs.ReaderLaws.{refused-reads, answered-edges, answered-refusal, Kept, policies-kept, policies-refusal}
use Rattle.sheet_reader.proofs.ReaderLaws.{few, bounded, stores}
use Rattle.sheet_reader.proofs.Below.{edges-below}
use native.Mathlib.Omega.{arith}
use mathlib.Core.Path.{◌∙◌}
use lib.ListN.{length}
use Rattle.sheet_reader.proofs.read_policies.Goals as goal

pub store_edges-requires : goal.store_edges-requires
store_edges-requires c =
    let k : Kept (policy_sheet (is_local c.args.text.now)) (length c.args.table.now) edge_places c.args.text.now c.read.new.buffer c.in_ok-edges.edges = policies-kept _ _ c.is_local-local.result c.is_local-local.ensures _ _ _ c.in_ok-edges.ensures.result_value c.in_ok-edges.ensures.buffer_after in
    let local = is_local c.args.text.now in
    let f = few (policy_sheet local) _ _ _ _ _ k in
    let l = k.room in
    record { n_le_most_edges = omega arith; edges_in_bounds = omega arith; by_index = bounded (policy_sheet local) _ _ _ _ _ k 256 (omega arith) (edges-below local k.ok.each) }

pub returns-in_err-edges : goal.returns-in_err-edges
unfolding policies_into
returns-in_err-edges c =
    let a = c.args in
    let local = c.is_local-local in
    let r = roomy (length a.table.now) edge_places (policies_read a.text.now) in
    let h = refused-reads r a.table.now _ _
    (policies-refusal (length a.table.now) a.text.now local.result local.ensures _ _
    c.in_err-edges.ensures.result_value) in
    let p = err_from_is_err_and c.from_residual.result c.from_residual.ensures.1 in
    record { result_value = rw (p.1, p.2) (answered-refusal (is_local a.text.now) r _ h.answers); table_after = h.table }

pub returns : goal.returns
unfolding policies_into
returns c =
    let k : Kept (policy_sheet (is_local c.args.text.now)) (length c.args.table.now) edge_places c.args.text.now c.read.new.buffer c.in_ok-edges.edges = policies-kept _ _ c.is_local-local.result c.is_local-local.ensures _ _ _ c.in_ok-edges.ensures.result_value c.in_ok-edges.ensures.buffer_after in
    let a = c.args in
    let h = stores (policy_sheet (is_local a.text.now)) _ _ _ _ _ k a.table.now in record { result_value = answered-edges (is_local a.text.now) _ _ _ c.is_local-local.ensures h.answers; table_after = c.store_edges.ensures ∙ h.table }
