use Rattle.sheet_expression.specs.Code.{rule_number, nodes_fault}
use mathlib.Core.Path.{sym, ap, ◌∙◌}
use Rattle.sheet_expression.proofs.checked.Goals as goal

pub returns-then-not-all_fit : goal.returns-then-not-all_fit
unfolding nodes_fault
returns-then-not-all_fit c = rw (sym c.all_fit.ensures ∙ c.if-not-all_fit.true)

pub returns-in-Ok : goal.returns-in-Ok
unfolding nodes_fault
returns-in-Ok c = rw (sym c.all_fit.ensures ∙ c.if-not-all_fit.false) (ap rule_number c.in-Ok.ensures)

pub returns-in-Err : goal.returns-in-Err
unfolding nodes_fault
returns-in-Err c = rw (sym c.all_fit.ensures ∙ c.if-not-all_fit.false) (ap rule_number c.in-Err.ensures)
