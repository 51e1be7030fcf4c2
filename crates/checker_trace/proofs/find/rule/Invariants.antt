use Rattle.outline_nodes.specs.Said.{said_by}
use Rattle.checker_trace.specs.Code.{offer_below}
use mathlib.Core.Path.{◌≡◌}
use Prim.Native.Nat.{ℕ, ◌<◌}
use Rattle.checker_trace.proofs.find.rule.Given as goal

abbrev pub invariant-loop-c : goal.invariant-loop-c
invariant-loop-c l = (i : ℕ) → i < l.c → offer_below l.x.watch l.x.rows.now l.x.lengths.now (said_by l.f) l.e l.n i ≡ l.n → ⊥
