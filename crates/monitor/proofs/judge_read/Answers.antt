use mathlib.Core.Path.{sym, ◌∙◌}
use Rattle.usage.specs.Tables.{edges_of}
use Rattle.usage.specs.Past.{opening, closing}
use Rattle.usage.specs.declared.Reason.TheVariants.{NoStep}
use Rattle.usage.proofs.JudgeLaws.{step_fits}
use Rattle.monitor_state.specs.Code.{state_of}
use Rattle.monitor.specs.Loans.{held}
use Rattle.monitor_state.proofs.StepLaws.{step-said}
use Rattle.monitor.proofs.LentLaws.{refused-parts, read_is, unread-is}
use Rattle.monitor.proofs.judge_read.Goals as goal

pub returns-in_default-clause-judged : goal.returns-in_default-clause-judged
returns-in_default-clause-judged c =
    let a = c.args in
    let by = a.by.now in
    let l = held a.lent.now in
    refused-parts l a.sizes NoStep c.refused.result c.refused.ensures
    ∙ unread-is by.looked by.local (edges_of by.edges.now) (state_of l a.sizes) a.step (sym c.in_default.ensures)

pub judge_opening-requires-clause-p_lt_policies : goal.judge_opening-requires-clause-p_lt_policies
judge_opening-requires-clause-p_lt_policies c = step_fits c.args.step (opening _) (step-said c.args.step c.in-Some.ensures c.in-Opening.is)

pub leave-requires-clause-p_lt_policies : goal.leave-requires-clause-p_lt_policies
leave-requires-clause-p_lt_policies c = step_fits c.args.step (closing _) (step-said c.args.step c.in-Some.ensures c.in-Closing.is)

pub returns-in-Event-clause-judged : goal.returns-in-Event-clause-judged
returns-in-Event-clause-judged c =
    let a = c.args in
    c.judge_event.ensures.judged
    ∙ read_is a.by.now (state_of (held a.lent.now) a.sizes) _ a.step (step-said a.step c.in-Some.ensures c.in-Event.is)

pub returns-in-Opening-clause-judged : goal.returns-in-Opening-clause-judged
returns-in-Opening-clause-judged c =
    let a = c.args in
    c.judge_opening.ensures.judged
    ∙ read_is a.by.now (state_of (held a.lent.now) a.sizes) _ a.step (step-said a.step c.in-Some.ensures c.in-Opening.is)

pub returns-in-Closing-clause-judged : goal.returns-in-Closing-clause-judged
returns-in-Closing-clause-judged c =
    let a = c.args in
    c.leave.ensures.judged
    ∙ read_is a.by.now (state_of (held a.lent.now) a.sizes) _ a.step (step-said a.step c.in-Some.ensures c.in-Closing.is)

pub returns-in-Retiring-clause-judged : goal.returns-in-Retiring-clause-judged
returns-in-Retiring-clause-judged c =
    let a = c.args in
    c.judge_retiring.ensures.judged
    ∙ read_is a.by.now (state_of (held a.lent.now) a.sizes) _ a.step (step-said a.step c.in-Some.ensures c.in-Retiring.is)
