use borrow.Author.Tests.{eq-eqb, ne_eqb}
use native.Mathlib.Omega.{arith}
use Rattle.checker_account.specs.Tables as tables
use Rattle.checker_tables.proofs.numbers.least.Goals as goal

pub returns-then-x-eq-WATCHED : goal.returns-then-x-eq-WATCHED
unfolding tables.least
returns-then-x-eq-WATCHED c =
    record { value = simp (eq-eqb _ _ c.if-x-eq-WATCHED.true); upper_bound = omega arith }

pub returns-then-x-eq-WATCHED-2 : goal.returns-then-x-eq-WATCHED-2
unfolding tables.least
returns-then-x-eq-WATCHED-2 c =
    record { value = simp (ne_eqb _ _ c.if-x-eq-WATCHED.false, eq-eqb _ _ c.if-x-eq-WATCHED-2.true); upper_bound = omega arith }

pub returns : goal.returns
unfolding tables.least
returns c =
    record { value = simp (ne_eqb _ _ c.if-x-eq-WATCHED.false, ne_eqb _ _ c.if-x-eq-WATCHED-2.false); upper_bound = omega arith }
