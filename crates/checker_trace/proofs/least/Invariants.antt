use Rattle.checker_trace.specs.Code.{Kept}
use Rattle.checker_trace.proofs.ShownLaws as laws
use Rattle.checker_trace.proofs.least.Given as goal

abbrev pub invariant-loop-x : goal.invariant-loop-x
invariant-loop-x l = laws.Least-below l.local l.p l.rows l.nodes l.x l.found × Kept l.local l.p l.rows l.nodes l.found l.t
