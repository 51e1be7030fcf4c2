use mathlib.Core.Path.{◌≡◌}
use Prim.Native.Nat.{◌+◌, ◌≤◌}
use lib.ListN.{length}
use lib.Seq.{sets}
use Rattle.report.proofs.CounterexampleLaws.{rows_left}
use Rattle.report.proofs.counterexample.rows.Given as goal

-- what is stored and what is left make the whole, and the whole has room
abbrev pub invariant-loop-i : goal.invariant-loop-i
invariant-loop-i l =
    (l.i ≤ l.n) × ((length l.out ≡ length l.initial.out) × ((l.at + length (rows_left l.trace l.n 0) ≤ length l.initial.out)
    × ((l.next + length (rows_left l.trace l.n l.i) ≡ l.at + length (rows_left l.trace l.n 0))
    × (sets l.out l.next (rows_left l.trace l.n l.i) ≡ sets l.initial.out l.at (rows_left l.trace l.n 0)))))
