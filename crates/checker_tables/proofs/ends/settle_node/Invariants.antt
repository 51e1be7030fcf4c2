use mathlib.Core.Path.{◌≡◌}
use mathlib.Core.List.{List}
use Prim.Native.Nat.{ℕ, ◌+◌}
use Rattle.outline_nodes.specs.declared.NodeForm.{NodeForm}
use Rattle.outline_nodes.specs.Said.{said_by}
use Rattle.checker_account.specs.declared.Resources.{Resources}
use Rattle.checker_account.specs.Tables.{rows_in, Resets}
use Rattle.checker_tables.specs.Search.{resets_if}
use Rattle.checker_account.specs.Filling.{repeat, grown, settle_entry}
use Rattle.checker_tables.proofs.ends.settle_node.Given as goal

abbrev pub settles : List ℕ → Resources → Resets → ℕ → ℕ → NodeForm → ℕ → List ℕ → List ℕ
settles rows x resets l k f i = settle_entry (rows_in rows) x resets k (said_by f) (l + i)

abbrev pub invariant-loop-i : goal.invariant-loop-i
invariant-loop-i l =
    (l.t ≡ repeat (settles l.s.rows.now l.s.resources (resets_if l.w.local l.w.policy l.opened) l.l l.s.node l.s.form) l.i l.initial.t) × (l.changed ≡ grown l.initial.t l.t)
