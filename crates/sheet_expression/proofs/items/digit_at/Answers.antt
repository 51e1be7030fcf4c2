use Rattle.sheet_expression.proofs.TextLaws.{digit-over, digit-is, digit-not}
use mathlib.Core.Path.{sym}
use borrow.Author.Tests.{ltb-true, ltb-false}
use Rattle.sheet_expression.proofs.items.digit_at.Goals as goal

pub returns-in_err-b : goal.returns-in_err-b
returns-in_err-b c =
    let a = c.args in
    rw c.from_residual.ensures (digit-over a.text.now a.i (ltb-false _ _ (sym c.in_err-b.ensures.lookup.0)))

pub returns-then-is_ascii_digit : goal.returns-then-is_ascii_digit
returns-then-is_ascii_digit c =
    let a = c.args in
    let l = c.in_ok-b.ensures.lookup in
    let x = c.if-is_ascii_digit.ensures.cases in
    digit-is a.text.now a.i c.in_ok-b.field-0.now (ltb-true _ _ (sym l.0)) l.1 x.0 x.1

pub returns-else-is_ascii_digit : goal.returns-else-is_ascii_digit
returns-else-is_ascii_digit c =
    let a = c.args in
    let l = c.in_ok-b.ensures.lookup in
    digit-not a.text.now a.i c.in_ok-b.field-0.now (ltb-true _ _ (sym l.0)) l.1 c.if-is_ascii_digit.ensures.cases
