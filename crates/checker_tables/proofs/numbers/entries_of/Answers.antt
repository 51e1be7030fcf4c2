use borrow.Author.Tests.{eq-eqb, ne_eqb}
use Rattle.checker_account.specs.Tables as tables
use Rattle.checker_tables.proofs.numbers.entries_of.Goals as goal

pub returns-then-x-eq-WATCHED_TOO : goal.returns-then-x-eq-WATCHED_TOO
unfolding tables.entries_of_lem
returns-then-x-eq-WATCHED_TOO c = simp (eq-eqb _ _ c.if-x-eq-WATCHED_TOO.true)

pub returns-else-x-eq-WATCHED_TOO : goal.returns-else-x-eq-WATCHED_TOO
unfolding tables.entries_of_lem
returns-else-x-eq-WATCHED_TOO c = simp (ne_eqb _ _ c.if-x-eq-WATCHED_TOO.false)
