use mathlib.Core.Path.{sym}
use native.Mathlib.Omega.{arith}
use Rattle.std.proofs.lemmas.Bool.Decides.{nat_tests}
use Rattle.desk.proofs.LoadLaws.{busy-is}
use Rattle.desk.proofs.loads.is_busy.Goals as goal

pub returns-then-h-ne0-2 : goal.returns-then-h-ne0-2
returns-then-h-ne0-2 c = λ b. rw (sym (busy-is c.args.h b)) (grind (arith, nat_tests))

pub returns-else-h-ne0-2 : goal.returns-else-h-ne0-2
returns-else-h-ne0-2 c = λ b. rw (sym (busy-is c.args.h b)) (grind (arith, nat_tests))
