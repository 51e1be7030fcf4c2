use native.Mathlib.Omega.{arith}
use mathlib.Core.Path.{refl, sym, ap, ◌∙◌}
use lib.ListN.{length, length-append}
use lib.Seq.{sets, length-sets}
use Rattle.report_lines.proofs.PutLaws.{sets-append}
use Rattle.report_lines.proofs.FitLaws.{stored_at}
use Rattle.report.specs.Counterexample.{step_row}
use Rattle.report.proofs.CounterexampleLaws.{all-rows-left, no-row-left, next-row-left}
use Rattle.report.proofs.counterexample.rows.Goals as goal

pub loop-i-init : goal.loop-i-init
loop-i-init c =
    let a = c.args in
    let e = all-rows-left a.trace.now a.n in
    let k = ap length e in
    (omega arith, (refl, (omega arith, (refl, refl))))

pub loop-i-preserved : goal.loop-i-preserved
loop-i-preserved c =
    let a = c.args in
    let t = c.loop-i in
    let s = c.step_at-s in
    let r = c.row-next in
    let line = step_row s.result in
    let e = next-row-left a.trace.now a.n t.i s.result s.ensures
    c.loop-i-test.true in
    let g = ap length e ∙ length-append line _ in
    let i₁ = t.invariant.1.0 in
    let i₂ = t.invariant.1.1.0 in
    let i₃ = t.invariant.1.1.1.0 in
    let z = stored_at t.out t.next line (omega arith) r.ensures.value r.ensures.out_after in
    let l = ap length z.1 ∙ length-sets _ _ line in
    let y = z.0 in
    let kept = sym (sets-append _ _ line _) ∙ ap (sets t.out t.next) (sym e) ∙ t.invariant.1.1.1.1 in
    (omega arith, (omega arith, (i₂, (omega arith, rw (z.1, z.0) kept))))

pub returns : goal.returns
returns c =
    let a = c.args in
    let t = c.loop-i in
    let e = all-rows-left a.trace.now a.n in
    let z = no-row-left a.trace.now a.n t.i c.loop-i-test.false in
    let g = ap length z in
    let i₃ = t.invariant.1.1.1.0 in
    record { value = rw e (omega arith); out_after = rw e (ap (sets t.out t.next) (sym z) ∙ t.invariant.1.1.1.1) }
