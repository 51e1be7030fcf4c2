use mathlib.Core.Bool.{true}
use Rattle.automaton.specs.Mask.{has}
use Rattle.checker_lengths.specs.Offers.{at_node}
use Rattle.checker_lengths.specs.Filling.{form_here}
use Rattle.checker_trace.specs.Code.{NoRule}
use mathlib.Core.Path.{◌≡◌}
use Prim.Native.Nat.{ℕ, ◌<◌}
use Rattle.checker_trace.proofs.find.find.Given as goal

abbrev pub invariant-loop-k : goal.invariant-loop-k
invariant-loop-k l = (j : ℕ) → j < l.k → has l.s j ≡ true
    → NoRule l.x.watch l.x.rows.now l.x.lengths.now (form_here l.x.nodes.now j) (at_node l.e j) l.n
