use Prim.Native.Nat.{ℕ}
use mathlib.Core.List.{List}
use lib.ListN.{get_or}
use mathlib.Core.Bool.{cond}
use lib.Bits.{bit_or}
use Rattle.automaton.specs.Mask.{has}
use Rattle.checker_tables.proofs.ByStateLaws.{InPlace}
use Rattle.checker_tables.proofs.sets.join_where.Given as goal

abbrev pub each : ℕ → ℕ → List ℕ → List ℕ → ℕ → ℕ
each s e w v j = bit_or (get_or w j 0) (cond (has (get_or v j 0) s) e 0)

abbrev pub invariant-loop-q : goal.invariant-loop-q
invariant-loop-q l =
    InPlace (each l.s l.e l.initial.w l.v) l.initial.w l.q l.w
