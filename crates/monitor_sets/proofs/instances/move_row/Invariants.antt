use Prim.Native.Nat.{◌+◌, ◌≤◌}
use mathlib.Core.Path.{◌≡◌}
use lib.ListN.{get_or}
use Rattle.automaton.specs.Mask.{union}
use Rattle.automaton.specs.Move.{move_by}
use Rattle.monitor_sets.specs.Code.{row_moved}
use Rattle.monitor_sets.proofs.instances.move_row.Given as goal

abbrev pub invariant-loop-i : goal.invariant-loop-i
invariant-loop-i l =
    let rows = l.rows in
    (l.i ≤ l.n) × ((l.sets ≡ row_moved rows l.k l.i l.initial.sets) × (l.all ≡ union l.i (λ j. move_by rows 0 (get_or l.initial.sets (l.k + j) 0))))
