use Rattle.std.proofs.lemmas.Result.{err_from_is_err_and}
use Rattle.sheet_expression.proofs.TextLaws.{is-in}
use Rattle.sheet_expression.proofs.ReadLaws.{start-below, line_refused, line-no-feed, line-goes-on, line-ends}
use native.Mathlib.Omega.{arith}
use mathlib.Core.Path.{sym, ◌∙◌}
use Rattle.sheet_expression.proofs.line.Goals as goal

pub choice-requires : goal.choice-requires
choice-requires c =
    record { short = c.requires; within = omega arith; few = omega (arith, c.empty.ensures); below = start-below _ }

pub returns-in_err-r : goal.returns-in_err-r
returns-in_err-r c =
    let p = err_from_is_err_and c.from_residual.result c.from_residual.ensures.1 in
    rw (p.1, p.2) (line_refused c.args.text.now c.empty.result c.empty.ensures c.in_err-r.ensures)

pub returns-then-not-is_at : goal.returns-then-not-is_at
returns-then-not-is_at c =
    line-no-feed c.args.text.now c.empty.result c.empty.ensures c.in_ok-r.r c.in_ok-r.ensures
    (sym c.is_at.ensures ∙ c.if-not-is_at.true)

pub overflow_add-r : goal.overflow_add-r
overflow_add-r c = omega (arith, is-in c.args.text.now c.in_ok-r.r.at 10 (sym c.is_at.ensures ∙ c.if-not-is_at.false))

pub returns-then-r-text : goal.returns-then-r-text
returns-then-r-text c =
    line-goes-on c.args.text.now c.empty.result c.empty.ensures c.in_ok-r.r c.in_ok-r.ensures
    (sym c.is_at.ensures ∙ c.if-not-is_at.false) c.if-r-text.true

pub returns-else-r-text : goal.returns-else-r-text
returns-else-r-text c =
    line-ends c.args.text.now c.empty.result c.empty.ensures c.in_ok-r.r c.in_ok-r.ensures
    (sym c.is_at.ensures ∙ c.if-not-is_at.false) c.if-r-text.false
