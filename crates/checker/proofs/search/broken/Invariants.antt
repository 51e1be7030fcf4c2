use mathlib.Core.Bool.{Bool, false}
use mathlib.Core.List.{List}
use mathlib.Core.Logic.{◌⊎◌}
use Prim.Native.Nat.{ℕ, ◌/◌, ◌<◌}
use lib.ListN.{length}
use Rattle.usage.specs.Limits.{node_fields}
use Rattle.checker_account.specs.Filling.{forms_in, Skips}
use Rattle.checker_account.specs.Choices.{choice_at}
use Rattle.checker_tables.specs.Search.{SearchedIn}
use Rattle.checker.proofs.search.broken.Given as goal

-- nothing is found with the j-th choice watched, or it need not be
abbrev pub Clear : List ℕ → Bool → List ℕ → ℕ → Bool → ℕ → Type 0
Clear nodes local rows p pair j =
    Skips (length nodes / node_fields) (forms_in nodes) (choice_at pair j) ⊎ SearchedIn nodes local rows p (choice_at pair j) false

abbrev pub invariant-loop-i : goal.invariant-loop-i
invariant-loop-i l = (j : ℕ) → j < l.i → Clear l.nodes l.local l.rows l.p l.pair j
