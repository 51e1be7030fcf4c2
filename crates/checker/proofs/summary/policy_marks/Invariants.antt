use Rattle.checker.proofs.SummaryLaws.{Marking}
use Rattle.checker.proofs.summary.policy_marks.Given as goal

abbrev pub invariant-loop-i : goal.invariant-loop-i
invariant-loop-i l = Marking l.nodes l.local l.rows l.p l.pair l.i l.m
