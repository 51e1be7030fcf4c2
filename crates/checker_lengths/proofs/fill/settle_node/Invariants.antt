use mathlib.Core.Bool.{Bool}
use lib.ListN.{get_or}
use Rattle.outline_nodes.specs.Said.{said_by}
use Rattle.checker_account.specs.Tables.{place}
use Rattle.checker_lengths.specs.Code.{Pass}
use Rattle.checker_lengths.specs.Filling.{StatesSettled}
use Prim.Native.Nat.{ℕ, ◌≤◌, ◌<◌}
use Rattle.checker_lengths.proofs.fill.settle_node.Given as goal

abbrev pub invariant-loop-m : goal.invariant-loop-m
invariant-loop-m l = Pass l.r.watch l.r.rows.now l.k (said_by l.r.form)
    (λ y. (j : ℕ) → j < l.m → l.l ≤ j → (o : Bool)
    → StatesSettled l.r.watch l.r.rows.now (said_by l.r.form) y l.k o j (get_or l.u (place l.k o j) 0)) l.initial.t l.t l.changed
