use native.Mathlib.Omega.{arith}
use Rattle.checker.specs.Summary.{mark_bits}
use Rattle.report.specs.Summary.{bit_text, policy_text}
use Rattle.report.proofs.SummaryLaws.{writing-begun, writing-fits, writing_more, writing-done}
use Rattle.report.proofs.summary.policy_rows.Goals as goal

pub loop-i-init : goal.loop-i-init
unfolding policy_text
loop-i-init c =
    let a = c.args in
    (omega arith, writing-begun (bit_text a.n a.p) mark_bits a.out.now a.at (omega arith))

pub bit_row-next-requires : goal.bit_row-next-requires
bit_row-next-requires c =
    let a = c.args in
    let t = c.loop-i in record {
      i_lt_mark_bits = c.loop-i-test.true;
      i_in_bounds = writing-fits (bit_text a.n a.p) mark_bits a.out.now a.at t.out t.next t.i t.invariant.1
          c.loop-i-test.true;
    }

pub loop-i-preserved : goal.loop-i-preserved
loop-i-preserved c =
    let a = c.args in
    let t = c.loop-i in
    let r = c.bit_row-next in (
      omega arith,
      writing_more (bit_text a.n a.p) mark_bits a.out.now a.at t.out t.next t.i t.invariant.1
          c.loop-i-test.true r.ensures.value r.ensures.out_after,
    )

pub returns : goal.returns
unfolding policy_text
returns c =
    let a = c.args in
    let t = c.loop-i in
    let y = writing-done (bit_text a.n a.p) mark_bits a.out.now a.at t.out t.next t.i t.invariant.1 c.loop-i-test.false in
    record { value = y.0; out_after = y.1 }
