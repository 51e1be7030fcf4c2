use mathlib.Core.Bool.{true}
use Rattle.outline_nodes.specs.Said.{said_by}
use Rattle.automaton.specs.Mask.{has}
use Rattle.checker_lengths.specs.Entries.{entry_of}
use Rattle.checker_lengths.specs.Code.{Pass}
use Rattle.checker_lengths.specs.Filling.{StartSettled}
use mathlib.Core.Path.{◌≡◌}
use Prim.Native.Nat.{ℕ, ◌<◌}
use Rattle.checker_lengths.proofs.fill.settle_states.Given as goal

abbrev pub invariant-loop-q : goal.invariant-loop-q
invariant-loop-q l = Pass l.r.watch l.r.rows.now l.g.to (said_by l.r.form) (λ u. (j : ℕ) → j < l.q → has l.g.states j ≡ true
    → StartSettled l.r.watch l.r.rows.now (said_by l.r.form) u (entry_of l.g.to l.g.opened l.g.meaning j 0)) l.initial.t l.t l.changed
