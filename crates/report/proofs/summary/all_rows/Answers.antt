use native.Mathlib.Omega.{arith}
use Rattle.usage.specs.Limits.{policies}
use Rattle.report.specs.Summary.{marks_text}
use Rattle.report.proofs.SummaryLaws.{writing-begun, writing-fits, writing_more, writing-done}
use Rattle.report.proofs.summary.all_rows.Goals as goal
use Rattle.report.proofs.summary.all_rows.Invariants.{of}

pub loop-p-init : goal.loop-p-init
unfolding marks_text
loop-p-init c =
    let a = c.args in
    (omega arith, writing-begun (of a.marks.now) policies a.out.now a.at (omega arith))

pub policy_rows-next-requires : goal.policy_rows-next-requires
policy_rows-next-requires c =
    let a = c.args in
    let t = c.loop-p in
    writing-fits (of a.marks.now) policies a.out.now a.at t.out t.next t.p t.invariant.1
    c.loop-p-test.true

pub loop-p-preserved : goal.loop-p-preserved
loop-p-preserved c =
    let a = c.args in
    let t = c.loop-p in
    let r = c.policy_rows-next in (
      omega arith,
      writing_more (of a.marks.now) policies a.out.now a.at t.out t.next t.p t.invariant.1
          c.loop-p-test.true r.ensures.value r.ensures.out_after,
    )

pub returns : goal.returns
unfolding marks_text
returns c =
    let a = c.args in
    let t = c.loop-p in
    let y = writing-done (of a.marks.now) policies a.out.now a.at t.out t.next t.p t.invariant.1 c.loop-p-test.false in
    record { value = y.0; out_after = y.1 }
