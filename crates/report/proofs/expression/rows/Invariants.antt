use mathlib.Core.Path.{◌≡◌}
use Prim.Native.Nat.{◌+◌, ◌≤◌}
use lib.ListN.{length}
use lib.Seq.{sets}
use Rattle.report.proofs.ExpressionLaws.{nodes_left}
use Rattle.report.proofs.expression.rows.Given as goal

-- what is stored and what is left make the whole, and the whole has room
abbrev pub invariant-loop-i : goal.invariant-loop-i
invariant-loop-i l =
    (l.i ≤ l.n) × ((length l.out ≡ length l.initial.out) × ((l.at + length (nodes_left l.nodes 0) ≤ length l.initial.out)
    × ((l.next + length (nodes_left l.nodes l.i) ≡ l.at + length (nodes_left l.nodes 0))
    × (sets l.out l.next (nodes_left l.nodes l.i) ≡ sets l.initial.out l.at (nodes_left l.nodes 0)))))
