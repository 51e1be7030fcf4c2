use native.Mathlib.Omega.{arith}
use Rattle.usage.specs.Tables.{from, step_at_lem}
use Rattle.report_lines.specs.Lines.{trace_names_line}
use Rattle.report_lines.proofs.RowLaws.{length-trace-names}
use Rattle.report.specs.Counterexample.{step_rows}
use Rattle.report.proofs.OutputLaws.{first-end, first-length, then-stored}
use Rattle.report.proofs.CounterexampleLaws.{explained-held, held-short}
use Rattle.report.proofs.counterexample.of_nodes.Goals as goal

pub rows-requires : goal.rows-requires
rows-requires c =
    let a = c.args in
    let k = c.check_with_counterexample-e in
    let w = c.trace_names-at in
    let s = c.steps_written in
    let f = explained-held k.ensures in
    let l = length-trace-names in
    let e = first-end a.out.now trace_names_line w.result w.new.out w.ensures.value w.ensures.out_after (omega arith) in
    let m = first-length a.out.now trace_names_line w.result w.new.out w.ensures.value w.ensures.out_after (omega arith) in
    let p = f.places in
    let q = f.few in
    let short = held-short f in
    rw s.ensures (record { n_in_bounds = omega arith; rows_in_bounds = omega arith })

pub returns : goal.returns
returns c =
    let a = c.args in
    let k = c.check_with_counterexample-e in
    let w = c.trace_names-at in
    let s = c.steps_written in
    let t = c.rows in
    let f = explained-held k.ensures in
    let l = length-trace-names in
    let short = held-short f in
    let z = then-stored a.out.now trace_names_line w.result w.new.out w.ensures.value w.ensures.out_after (omega arith)
    (step_rows (from (step_at_lem k.new.trace) 0 s.result))
    (rw s.ensures (omega arith)) t.ensures.value t.ensures.out_after in
    let y = rw s.ensures at z in
    record { explanation = k.result; trace = k.new.trace; right = k.ensures; told = y.0; holds = y.1 }
