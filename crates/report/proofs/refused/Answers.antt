use native.Mathlib.Omega.{arith}
use Rattle.usage.specs.Reasons.{refusal_of}
use Rattle.report_lines.specs.Lines.{names_line, refusal_row}
use Rattle.report_lines.proofs.RowLaws.{length-names}
use Rattle.report.proofs.OutputLaws.{then-put}
use Rattle.report.proofs.refused.Goals as goal

pub returns : goal.returns
returns c =
    let a = c.args in
    let w = c.names-at in
    let r = c.refusal_row in
    let k = length-names in
    let y = then-put a.out.now names_line w.result w.new.out w.ensures.value w.ensures.out_after (omega arith)
    (refusal_row a.sheet (refusal_of a.r))
    (omega arith) r.ensures.value r.ensures.out_after in
    record { value = y.0; out_after = y.1 }
