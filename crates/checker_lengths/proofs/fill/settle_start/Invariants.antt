use Rattle.outline_nodes.specs.Said.{said_by}
use Rattle.checker_lengths.specs.Code.{Pass}
use Rattle.checker_lengths.specs.Filling.{RuleSettled}
use Prim.Native.Nat.{ℕ, ◌<◌}
use Rattle.checker_lengths.proofs.fill.settle_start.Given as goal

abbrev pub invariant-loop-c : goal.invariant-loop-c
invariant-loop-c l = Pass l.r.watch l.r.rows.now l.s.node (said_by l.r.form) (λ u. (j : ℕ) → j < l.c → RuleSettled l.r.watch l.r.rows.now (said_by l.r.form) u l.s j) l.initial.t l.t l.changed
