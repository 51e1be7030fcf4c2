use mathlib.Core.Bool.{cond}
use mathlib.Core.List.{List}
use Prim.Native.Nat.{ℕ, ◌+◌}
use lib.ListN.{get_or}
use Rattle.usage.specs.Limits.{states}
use Rattle.automaton.specs.Mask.{has, union}
use Rattle.checker_tables.specs.ByState.{ByState}
use Rattle.checker_tables.proofs.sets.union_each.Given as goal

-- what the state j adds for the set at q
abbrev pub part : List ℕ → ℕ → List ℕ → ℕ → ℕ → ℕ
part t i v q j = cond (has (get_or v q 0) j) (get_or t (i + j) 0) 0

abbrev pub invariant-loop-s : goal.invariant-loop-s
invariant-loop-s l =
    ByState states (λ q. union l.s (part l.t l.i l.v q)) l.r
