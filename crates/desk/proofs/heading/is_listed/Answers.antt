use native.Mathlib.Omega.{arith}
use Rattle.std.proofs.lemmas.Bool.Decides.{nat_tests}
use Rattle.desk.specs.State.{is_listed_lem}
use Rattle.desk.proofs.heading.is_listed.Goals as goal

pub returns-then-h-ne0-2 : goal.returns-then-h-ne0-2
unfolding is_listed_lem
returns-then-h-ne0-2 c = grind (arith, nat_tests)

pub returns-else-h-ne0-2 : goal.returns-else-h-ne0-2
unfolding is_listed_lem
returns-else-h-ne0-2 c = grind (arith, nat_tests)
