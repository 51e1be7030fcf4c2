use mathlib.Core.Path.{◌≡◌}
use lib.ListN.{length}
use Rattle.sheet_writer.proofs.LineLaws.{Lines}
use Rattle.sheet_writer.proofs.text.write.Given as goal

abbrev pub invariant-loop-k : goal.invariant-loop-k
invariant-loop-k l = (length l.out ≡ length l.initial.out) × Lines l.initial.out l.initial.at l.keys l.k-index l.at l.out
