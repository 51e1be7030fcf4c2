use mathlib.Core.Path.{◌≡◌}
use mathlib.Core.List.{List}
use Prim.Native.Nat.{ℕ}
use Rattle.checker_account.specs.declared.Watch.{Watch}
use Rattle.checker_account.specs.Tables.{rows_in}
use Rattle.checker_account.specs.Filling.{repeat, grown, forms_in, by_open, pass_node_lem, Wide}
use Rattle.checker_tables.proofs.arrivals.pass_round.Given as goal

abbrev pub steps : List ℕ → List ℕ → List ℕ → List ℕ → Watch → ℕ → List ℕ → List ℕ
steps opened shut nodes rows w k =
    pass_node_lem w.local (rows_in rows) w.policy w.resources (by_open opened shut) k (forms_in nodes k)

abbrev pub invariant-loop-k : goal.invariant-loop-k
invariant-loop-k l =
    (l.u ≡ repeat (steps l.ends.opened.now l.ends.shut.now l.nodes l.rows l.w) l.k l.initial.u) × ((l.changed ≡ grown l.initial.u l.u) × (Wide l.initial.u → Wide l.u))
