use Rattle.std.proofs.lemmas.Result.{err_from_is_err_and}
use Rattle.usage.specs.Limits.{step_places}
use Rattle.sheet_lines.specs.Sheet.{sheet}
use Rattle.sheet_lines.specs.Sheets.{trace_sheet}
use Rattle.sheet_reader.specs.Readers.{roomy, trace_into}
use Rattle.sheet_reader.proofs.ReaderLaws.{refused-reads, refusal-result, Kept, kept, few, stores}
use native.Mathlib.Omega.{arith}
use mathlib.Core.Path.{◌∙◌}
use lib.ListN.{length}
use Rattle.sheet_reader.proofs.read_trace.Goals as goal

pub returns-in_err-n : goal.returns-in_err-n
unfolding trace_into
returns-in_err-n c =
    let a = c.args in
    let r = roomy (length a.table.now) step_places (sheet trace_sheet a.text.now) in
    let h = refused-reads r a.table.now _ _
    (refusal-result r _ _ c.in_err-n.ensures.result_value) in
    let p = err_from_is_err_and c.from_residual.result c.from_residual.ensures.1 in
    record { result_value = rw (p.1, p.2) h.answers; table_after = h.table }

pub store_numbers-requires : goal.store_numbers-requires
store_numbers-requires c =
    let k : Kept trace_sheet (length c.args.table.now) step_places c.args.text.now c.read.new.buffer c.in_ok-n.n = kept trace_sheet _ step_places _ _ _ _ c.in_ok-n.ensures.result_value c.in_ok-n.ensures.buffer_after in
    let f = few trace_sheet _ _ _ _ _ k in
    let l = k.room in
    record { n_le_most_steps = omega arith; step_fields_in_bounds = omega arith }

pub returns : goal.returns
unfolding trace_into
returns c =
    let k : Kept trace_sheet (length c.args.table.now) step_places c.args.text.now c.read.new.buffer c.in_ok-n.n = kept trace_sheet _ step_places _ _ _ _ c.in_ok-n.ensures.result_value c.in_ok-n.ensures.buffer_after in
    let h = stores trace_sheet _ _ _ _ _ k
    c.args.table.now in
    record { result_value = h.answers; table_after = c.store_numbers.ensures ∙ h.table }
