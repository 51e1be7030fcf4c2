use Rattle.desk.specs.Layout.{byte_at, Put}
use Rattle.desk.proofs.bytes.bytes_out.Given as goal

abbrev pub invariant-loop-i : goal.invariant-loop-i
invariant-loop-i g l = Put byte_at 1 l.initial.b l.place l.i l.l l.b
