use Rattle.desk.specs.Layout.{wide_at, Got}
use Rattle.desk.proofs.bytes.longs_at.Given as goal

abbrev pub invariant-loop-i : goal.invariant-loop-i
invariant-loop-i g l = Got wide_at 8 l.b l.place l.i l.initial.t l.t
