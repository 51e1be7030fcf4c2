use mathlib.Core.Path.{◌≡◌}
use mathlib.Core.Bool.{Bool, cond}
use mathlib.Core.List.{List}
use Prim.Native.Nat.{ℕ}
use Rattle.checker_account.specs.declared.Resources.{Resources}
use Rattle.automaton.specs.Mask.{union}
use Rattle.checker_account.specs.Tables.{rows_in}
use Rattle.checker_account.specs.Filling.{forms_in, hit_node_lem}
use Rattle.checker_tables.specs.Marks.{last_in, mark_bit_lem}
use Rattle.checker_tables.proofs.hits.marks.Given as goal

abbrev pub test : List ℕ → List ℕ → List ℕ → Bool → ℕ → Resources → ℕ → Bool
test u nodes rows local p x k = hit_node_lem local (rows_in rows) p x u k (forms_in nodes k)

abbrev pub mark : List ℕ → List ℕ → List ℕ → Bool → ℕ → Resources → ℕ → ℕ
mark u nodes rows local p x k = cond (test u nodes rows local p x k) (mark_bit_lem (last_in (forms_in nodes k))) 0

abbrev pub invariant-loop-k : goal.invariant-loop-k
invariant-loop-k l =
    l.m ≡ union l.k (mark l.u l.nodes l.rows l.w.local l.w.policy l.w.resources)
