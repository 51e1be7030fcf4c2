use mathlib.Core.Path.{◌≡◌}
use mathlib.Core.Bool.{Bool, false}
use mathlib.Core.List.{List}
use Prim.Native.Nat.{ℕ}
use Rattle.usage.specs.Tests.{some_below}
use Rattle.checker_account.specs.declared.Resources.{Resources}
use Rattle.checker_account.specs.Tables.{rows_in}
use Rattle.checker_account.specs.Filling.{forms_in, hit_node_lem}
use Rattle.checker_tables.proofs.hits.any.Given as goal

abbrev pub test : List ℕ → List ℕ → List ℕ → Bool → ℕ → Resources → ℕ → Bool
test u nodes rows local p x k = hit_node_lem local (rows_in rows) p x u k (forms_in nodes k)

abbrev pub invariant-loop-k : goal.invariant-loop-k
invariant-loop-k l =
    some_below (test l.u l.nodes l.rows l.w.local l.w.policy l.w.resources) l.k ≡ false
