use Rattle.sheet_expression.proofs.TextLaws.{digit-in, number-none, number-one, number-two}
use native.Mathlib.Omega.{arith}
use mathlib.Core.Path.{sym}
use Prim.Native.Nat.{◌+◌}
use Rattle.sheet_expression.proofs.items.number.Goals as goal

pub returns-in_default : goal.returns-in_default
returns-in_default c = number-none c.args.text.now c.args.i (sym c.in_default.ensures)

pub overflow_add-i : goal.overflow_add-i
overflow_add-i c = let h = digit-in c.args.text.now c.args.i _ (sym c.in-Some.ensures) in omega arith

pub overflow_add-result : goal.overflow_add-result
overflow_add-result c = let h = digit-in c.args.text.now c.args.i _ (sym c.in-Some.ensures) in omega arith

pub overflow_add-result-in-Some-digit_at-2 : goal.overflow_add-result-in-Some-digit_at-2
overflow_add-result-in-Some-digit_at-2 c =
    let g = digit-in c.args.text.now (c.args.i + 1) _ (sym c.in-Some-digit_at.ensures) in omega arith

pub returns-in-None : goal.returns-in-None
returns-in-None c = number-one c.args.text.now c.args.i _ (sym c.in-Some.ensures) (sym c.in-None.ensures)

pub returns-in-Some-digit_at : goal.returns-in-Some-digit_at
returns-in-Some-digit_at c = number-two c.args.text.now c.args.i _ _ (sym c.in-Some.ensures) (sym c.in-Some-digit_at.ensures)
