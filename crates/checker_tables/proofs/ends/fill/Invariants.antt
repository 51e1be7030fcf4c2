use mathlib.Core.List.{List}
use Prim.Native.Nat.{ℕ, ◌/◌}
use lib.ListN.{length}
use Rattle.usage.specs.Limits.{node_fields}
use Rattle.checker_account.specs.declared.Resources.{Resources}
use Rattle.checker_account.specs.Tables.{places_of, rows_in, Resets}
use Rattle.checker_account.specs.Filling.{forms_in}
use Rattle.checker_tables.specs.Search.{resets_if}
use Rattle.checker_tables.proofs.WorkLaws.{Working, left_of}
use Rattle.checker_tables.proofs.ends.fill.Given as goal

abbrev pub Done : List ℕ → List ℕ → Resources → Resets → List ℕ → ℕ → Type 0
Done nodes rows x resets = Working (rows_in rows) x resets (length nodes / node_fields) (forms_in nodes)

abbrev pub invariant-loop-left : goal.invariant-loop-left
invariant-loop-left l =
    Done l.nodes l.rows l.w.resources (resets_if l.w.local l.w.policy l.opened) l.t l.left

abbrev pub decreases-loop-left : goal.decreases-loop-left
decreases-loop-left l = left_of (places_of l.w.resources) l.t l.left
