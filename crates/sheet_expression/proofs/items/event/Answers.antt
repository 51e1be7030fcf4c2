use Rattle.sheet_expression.proofs.TextLaws.{is-in}
use native.Mathlib.Omega.{arith}
use mathlib.Core.Path.{sym, ◌∙◌}
use Rattle.sheet_expression.proofs.items.event.Goals as goal

pub overflow_add-n : goal.overflow_add-n
overflow_add-n c = omega (arith, is-in c.args.text.now c.args.n.end 40 (sym c.is_at.ensures ∙ c.if-is_at.true))
