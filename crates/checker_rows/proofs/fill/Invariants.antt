use mathlib.Core.Path.{◌≡◌}
use Prim.Native.Nat.{ℕ}
use lib.ListN.{replicate}
use mathlib.Core.Bool.{Bool}
use mathlib.Core.List.{List}
use Rattle.usage.specs.Tables.{edges_of}
use Rattle.automaton.specs.Move.{rows_at}
use Rattle.checker_account.specs.Filling.{repeat, forms_in}
use Rattle.checker_account.specs.RowTable.{node_rows}
use Rattle.checker_account.specs.Tables.{places}
use Rattle.checker_rows.proofs.fill.Given as goal

abbrev pub steps : List ℕ → List ℕ → ℕ → Bool → ℕ → List ℕ → List ℕ
steps edges nodes p pair k = node_rows (rows_at (edges_of edges)) pair p k (forms_in nodes k)

abbrev pub invariant-loop-k : goal.invariant-loop-k
invariant-loop-k l = l.rows ≡ repeat (steps l.edges l.nodes l.p l.pair) l.k (replicate places 0)
