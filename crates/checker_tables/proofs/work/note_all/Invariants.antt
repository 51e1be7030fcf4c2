use mathlib.Core.Path.{◌≡◌}
use mathlib.Core.List.{List}
use Prim.Native.Nat.{ℕ}
use lib.ListN.{replicate}
use Rattle.usage.specs.Limits.{most_nodes}
use Rattle.checker_account.specs.Filling.{repeat, forms_in}
use Rattle.checker_tables.specs.Work.{noted}
use Rattle.checker_tables.proofs.work.note_all.Given as goal

abbrev pub steps : List ℕ → ℕ → List ℕ → List ℕ
steps nodes k = noted k (forms_in nodes k)

abbrev pub invariant-loop-k : goal.invariant-loop-k
invariant-loop-k l =
    l.masks ≡ repeat (steps l.nodes) l.k (replicate most_nodes 0)
