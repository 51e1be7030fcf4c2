use native.Mathlib.Omega.{arith}
use Rattle.std.proofs.lemmas.Bool.Decides.{nat_tests}
use Rattle.desk.specs.State.{head_ok_lem}
use Rattle.desk.proofs.heading.head_ok.Goals as goal

pub returns-then-h-le-EXCEEDED : goal.returns-then-h-le-EXCEEDED
unfolding head_ok_lem
returns-then-h-le-EXCEEDED c = grind (arith, nat_tests)

pub returns-else-h-le-EXCEEDED : goal.returns-else-h-le-EXCEEDED
unfolding head_ok_lem
returns-else-h-le-EXCEEDED c = grind (arith, nat_tests)
