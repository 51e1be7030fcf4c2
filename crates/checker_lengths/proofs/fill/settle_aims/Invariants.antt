use Rattle.outline_nodes.specs.Said.{said_by}
use Rattle.checker_lengths.specs.Offers.{toward, low_end_lem}
use Rattle.checker_lengths.specs.Code.{Pass}
use Rattle.checker_lengths.specs.Filling.{Settled}
use Prim.Native.Nat.{ℕ, ◌≤◌, ◌<◌}
use Rattle.checker_lengths.proofs.fill.settle_aims.Given as goal

abbrev pub invariant-loop-i : goal.invariant-loop-i
invariant-loop-i l = Pass l.r.watch l.r.rows.now l.s.node (said_by l.r.form) (λ u. (j : ℕ) → j < l.i → low_end_lem l.s.meaning ≤ j
    → Settled l.r.watch l.r.rows.now (said_by l.r.form) u (toward l.s j) l.c) l.initial.t l.t l.changed
