-- `outline_rows` meets its contract.
use Rattle.report_desk.specs.Printed.{sheet_row, no_outline, has_outline}
use Rattle.report_desk.proofs.PrintedLaws.{rows_right, one-row}
use Rattle.report_desk.proofs.outline_rows.Goals as goal

pub returns-then-code-eq-REFUSED : goal.returns-then-code-eq-REFUSED
returns-then-code-eq-REFUSED c =
    let k = c.outline-code in
    let w = c.refused in
    one-row (sheet_row 5 k.result) (no_outline k.ensures c.if-code-eq-REFUSED.true) w.ensures.code_len_bound w.ensures.value w.ensures.out_after

pub returns : goal.returns
returns c =
    let k = c.outline-code in
    rows_right (λ rows. has_outline k.ensures c.if-code-eq-REFUSED.false) c.trace_rows.ensures
