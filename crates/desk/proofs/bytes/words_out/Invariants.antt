use Rattle.desk.specs.Layout.{word_at, Put}
use Rattle.desk.proofs.bytes.words_out.Given as goal

abbrev pub invariant-loop-i : goal.invariant-loop-i
invariant-loop-i g l = Put word_at 4 l.initial.b l.place l.i l.l l.b
