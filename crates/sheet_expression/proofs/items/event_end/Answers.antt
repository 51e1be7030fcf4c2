use Rattle.sheet_expression.proofs.TextLaws.{is-in}
use native.Mathlib.Omega.{arith}
use mathlib.Core.Path.{sym, ◌∙◌}
use Rattle.sheet_expression.proofs.items.event_end.Goals as goal

pub overflow_add-result : goal.overflow_add-result
overflow_add-result c = omega (arith, is-in c.args.text.now c.args.n.end 41 (sym c.is_at.ensures ∙ c.if-is_at.true))
