use Rattle.desk.specs.Layout.{wide_at, Put}
use Rattle.desk.proofs.bytes.longs_out.Given as goal

abbrev pub invariant-loop-i : goal.invariant-loop-i
invariant-loop-i g l = Put wide_at 8 l.initial.b l.place l.i l.l l.b
