use Rattle.usage.proofs.Logic.{not-true, not-false, by_cases}
use Rattle.desk_positions.proofs.ReadingLaws.{test-fails, test-passes, test-ends}
use native.Mathlib.Omega.{arith}
use mathlib.Core.Path.{refl, sym, ◌∙◌}
use Rattle.desk_positions.proofs.rows_ok.Goals as goal

-- src/lib.rt:727:13
pub returns-then-not-row_ok : goal.returns-then-not-row_ok
returns-then-not-row_ok c =
    let a = c.args in
    let t = c.loop-i in record { value = λ l h. sym (t.invariant.1 ∙ test-fails a.t.now t.i c.loop-i-test.true (sym c.row_ok.ensures ∙ not-true _ c.if-not-row_ok.true-raw)); no_table = λ o. refl }

-- src/lib.rt:724:5
pub loop-i-preserved : goal.loop-i-preserved
loop-i-preserved c =
    let a = c.args in
    let t = c.loop-i in (
      omega arith,
      t.invariant.1 ∙ test-passes a.t.now t.i c.loop-i-test.true (sym c.row_ok.ensures ∙ not-false _ c.if-not-row_ok.false-raw),
    )

-- src/lib.rt:713:1
pub returns : goal.returns
returns c =
    let a = c.args in
    let t = c.loop-i in record { value = λ l h. sym (t.invariant.1 ∙ test-ends a.t.now t.i c.loop-i-test.false); no_table = λ o. absurd (by_cases o (λ d. d c.if-t-ne-ROWS.false) (λ d. let k = c.if-n-gt-MOST_POSITIONS.false in omega arith)) }
