use Rattle.desk.specs.Layout.{word_at, Got}
use Rattle.desk.proofs.bytes.words_at.Given as goal

abbrev pub invariant-loop-i : goal.invariant-loop-i
invariant-loop-i g l = Got word_at 4 l.b l.place l.i l.initial.t l.t
