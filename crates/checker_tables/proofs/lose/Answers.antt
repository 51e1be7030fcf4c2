use borrow.Author.Tests.{eq-eqb, ne_eqb}
use Rattle.checker_tables.specs.Search.{lost}
use Rattle.checker_tables.proofs.lose.Goals as goal

pub returns-then-m-n : goal.returns-then-m-n
unfolding lost
returns-then-m-n c = simp (eq-eqb _ _ c.if-m-n.true)

pub returns-else-m-n : goal.returns-else-m-n
unfolding lost
returns-else-m-n c = simp (ne_eqb _ _ c.if-m-n.false)
