use borrow.Author.Tests.{eq-eqb, ne_eqb}
use Rattle.monitor_pairs.specs.Code.{row_where}
use Rattle.monitor_pairs.proofs.runs.pick_any.Goals as goal

pub returns-then-x-m-eq0 : goal.returns-then-x-m-eq0
unfolding row_where
returns-then-x-m-eq0 c = simp (eq-eqb _ _ c.if-x-m-eq0.true)

pub returns-else-x-m-eq0 : goal.returns-else-x-m-eq0
unfolding row_where
returns-else-x-m-eq0 c = simp (ne_eqb _ _ c.if-x-m-eq0.false)
