use mathlib.Core.Path.{subst}
use Rattle.checker_account.specs.declared.Resources.{Resources}
use Rattle.checker.specs.Code.{MarkedIn}
use Rattle.checker.proofs.SummaryLaws.{marking-none, marking-more}
use Rattle.checker.proofs.summary.policy_marks.Goals as goal

pub loop-i-init : goal.loop-i-init
loop-i-init c = let a = c.args in marking-none a.nodes.now a.local a.rows.now a.p a.pair

pub loop-i-preserved : goal.loop-i-preserved
loop-i-preserved c =
    let a = c.args in
    let t = c.loop-i in
    marking-more a.nodes.now a.local a.rows.now a.p a.pair t.i t.m c.marks_with-m.result t.invariant
    (subst (λ (y : Resources). MarkedIn a.nodes.now a.local a.rows.now a.p y c.marks_with-m.result) c.at.ensures
    c.marks_with-m.ensures)
