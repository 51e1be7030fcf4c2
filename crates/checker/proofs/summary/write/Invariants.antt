use Rattle.checker.proofs.SummaryLaws.{Writing}
use Rattle.checker.proofs.summary.write.Given as goal

abbrev pub invariant-loop-p : goal.invariant-loop-p
invariant-loop-p l =
    Writing l.local l.edges l.nodes l.initial.marks l.p l.marks
