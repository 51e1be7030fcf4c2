use mathlib.Core.Path.{sym}
use Rattle.monitor_state.proofs.LookedLaws.{has_all}
use Rattle.desk.specs.State.{summary_in}
use Rattle.desk.proofs.judge.looked_at.Goals as goal

pub returns-then-lean : goal.returns-then-lean
unfolding summary_in
returns-then-lean c = rw (c.if-lean.true, sym c.longs_at-marks.ensures) c.looked_at.ensures

pub returns : goal.returns
returns c = rw c.if-lean.false (λ read e p l. has_all p l)
