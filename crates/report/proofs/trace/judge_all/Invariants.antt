use Rattle.monitor_state.specs.Lent.{lent_of, state_of}
use Rattle.report.proofs.TraceLaws.{Going}
use Rattle.report.proofs.trace.judge_all.Given as goal

-- the state lies in its arrays, and in what it has beside them
abbrev pub invariant-loop-i : goal.invariant-loop-i
invariant-loop-i l =
    Going l.edges l.local l.steps l.n l.initial.out l.at l.out (state_of (lent_of l.s.tracked.sets l.s.tracked.pairs l.s.tracked.possible l.s.created.numbers l.s.unclosed.counts l.s.unclosed.order) l.sizes) l.next l.i
