-- `step_rows` meets its contract. The invariant: the lines of the first i steps stand in the buffer, and whatever steps follow, the numbers
-- of all of them are those of the calls one after the other.
use Rattle.report_desk.proofs.PrintedLaws.{Going}
use Rattle.report_desk.proofs.step_rows.Given as goal

abbrev pub invariant-loop-i : goal.invariant-loop-i
invariant-loop-i l = Going l.initial.state l.steps l.n l.initial.out l.at l.state l.out l.next l.i
