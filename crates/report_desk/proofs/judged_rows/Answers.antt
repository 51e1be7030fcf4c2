-- `judged_rows` meets its contract.
use native.Mathlib.Omega.{arith}
use mathlib.Core.Path.{ap, ◌∙◌}
use lib.ListN.{length}
use lib.Seq.{length-sets}
use Rattle.report_desk.specs.Printed.{code_row}
use Rattle.report_desk.proofs.PrintedLaws.{then-steps}
use Rattle.report_desk.proofs.judged_rows.Goals as goal

pub step_rows-requires : goal.step_rows-requires
step_rows-requires c =
    let a = c.args in
    let p = c.requires in
    let w = c.called-next in
    let l = ap length w.ensures.out_after ∙ length-sets a.out.now a.at (code_row 0 a.verdict) in
    let k = w.ensures.code_len_bound in
    let e = w.ensures.value in
    record { steps_len_bound = p.steps_len_bound; longest_desk_row_in_bounds = omega arith }

pub returns : goal.returns
returns c =
    let w = c.called-next in
    then-steps w.ensures.value w.ensures.out_after w.ensures.code_len_bound c.step_rows.ensures
