use Rattle.sheet_expression.specs.Code.{event_tree}
use Rattle.sheet_expression.proofs.TextLaws.{letter-in}
use native.Mathlib.Omega.{arith}
use mathlib.Core.Path.{sym}
use Rattle.sheet_expression.proofs.items.event_from.Goals as goal

pub overflow_add-i : goal.overflow_add-i
overflow_add-i c = omega (arith, letter-in c.args.text.now c.args.i (event_tree c.in-Some.letter) (sym c.in-Some.ensures))
