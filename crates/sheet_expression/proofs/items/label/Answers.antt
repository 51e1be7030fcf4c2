use Rattle.sheet_expression.proofs.TextLaws.{digit-in, label-none, label-one}
use native.Mathlib.Omega.{arith}
use mathlib.Core.Path.{sym}
use Rattle.sheet_expression.proofs.items.label.Goals as goal

pub overflow_add-result : goal.overflow_add-result
overflow_add-result c = omega (arith, digit-in c.args.text.now c.args.i c.in-Some.value (sym c.in-Some.ensures))

pub returns-in-None : goal.returns-in-None
returns-in-None c = label-none c.args.text.now c.args.i (sym c.in-None.ensures)

pub returns-in-Some : goal.returns-in-Some
returns-in-Some c = label-one c.args.text.now c.args.i c.in-Some.value (sym c.in-Some.ensures)
