use Rattle.sheet_expression.proofs.TextLaws.{here, over}
use borrow.Author.Tests.{le-ltb}
use Rattle.sheet_expression.proofs.items.is_at.Goals as goal

pub returns-then-i-text : goal.returns-then-i-text
returns-then-i-text c = let a = c.args in rw (here a.text.now a.i c.if-i-text.true)

pub returns-else-i-text : goal.returns-else-i-text
returns-else-i-text c = let a = c.args in rw (over a.text.now a.i c.if-i-text.false, le-ltb _ _ c.if-i-text.false)
