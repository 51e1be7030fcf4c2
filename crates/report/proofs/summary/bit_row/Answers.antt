use native.Mathlib.Omega.{arith}
use mathlib.Core.Path.{sym, ap, ◌∙◌}
use lib.ListN.{length}
use borrow.Author.Tests.{eq-eqb, ne_eqb}
use Rattle.monitor_sets.proofs.SetLaws.{has-bit}
use Rattle.report_lines.specs.Lines.{mark_row_lem}
use Rattle.report_lines.proofs.FitLaws.{stored_at}
use Rattle.report.proofs.SummaryLaws.{bit-set, bit-clear}
use borrow.Author.Rules.{rules}
use Rattle.report.proofs.summary.bit_row.Goals as goal

pub returns-then-n-i-eq1 : goal.returns-then-n-i-eq1
returns-then-n-i-eq1 c =
    let a = c.args in
    let r = c.mark_row in
    let e = bit-set a.n a.p a.i (sym (has-bit a.n a.i) ∙ eq-eqb _ _ c.if-n-i-eq1.true) in
    let k = ap length e in
    let y = stored_at a.out.now a.at (mark_row_lem a.p a.i) (omega arith) r.ensures.value r.ensures.out_after in
    rw e (record { value = y.0; out_after = y.1 })

pub returns : goal.returns
returns c =
    let a = c.args in
    let e = bit-clear a.n a.p a.i (sym (has-bit a.n a.i) ∙ ne_eqb _ _ c.if-n-i-eq1.false) in
    rw e (record { value = search rules; out_after = search rules })
