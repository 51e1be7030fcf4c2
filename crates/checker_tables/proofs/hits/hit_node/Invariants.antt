use mathlib.Core.Path.{◌≡◌}
use mathlib.Core.Bool.{Bool, false}
use mathlib.Core.List.{List}
use Prim.Native.Nat.{ℕ, ◌+◌}
use Rattle.usage.specs.Tests.{some_below}
use Rattle.outline_nodes.specs.declared.NodeForm.{NodeForm}
use Rattle.outline_nodes.specs.Said.{said_by}
use Rattle.checker_account.specs.declared.Resources.{Resources}
use Rattle.automaton.specs.Mask.{offends}
use Rattle.checker_account.specs.Tables.{half, rows_in}
use Rattle.checker_account.specs.Filling.{leaves_of}
use Rattle.checker_tables.proofs.hits.hit_node.Given as goal

abbrev pub test : List ℕ → List ℕ → Bool → ℕ → Resources → ℕ → ℕ → NodeForm → ℕ → Bool
test u rows local p x l k f i = offends (half false (leaves_of local (rows_in rows) p x u k (l + i) (said_by f)))

abbrev pub invariant-loop-i : goal.invariant-loop-i
invariant-loop-i l =
    some_below (test l.u l.s.rows.now l.w.local l.w.policy l.s.resources l.l l.s.node l.s.form) l.i ≡ false
