-- One number for each case of a reader's answer.
use native.Mathlib.Omega.{arith}
use borrow.Author.Tests.{eq-eqb, ne_eqb}
use Rattle.api_c.proofs.expression.read_code.Goals as goal

pub returns-then-r-eq0 : goal.returns-then-r-eq0
returns-then-r-eq0 c =
    rw (c.in-Err.is, eq-eqb c.in-Err.r.line 0 c.if-r-eq0.true) (omega arith)

pub returns-else-r-eq0 : goal.returns-else-r-eq0
returns-else-r-eq0 c =
    rw (c.in-Err.is, ne_eqb c.in-Err.r.line 0 c.if-r-eq0.false) (omega arith)
