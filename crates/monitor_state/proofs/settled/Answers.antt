use borrow.Author.Tests.{eq-eqb, ne_eqb}
use Rattle.monitor_state.specs.Code.{told_of}
use Rattle.monitor_state.proofs.settled.Goals as goal

pub returns-then-broken-eq0 : goal.returns-then-broken-eq0
unfolding told_of
returns-then-broken-eq0 c = simp (eq-eqb _ _ c.if-broken-eq0.true)

pub returns : goal.returns
unfolding told_of
returns c = simp (ne_eqb _ _ c.if-broken-eq0.false)
