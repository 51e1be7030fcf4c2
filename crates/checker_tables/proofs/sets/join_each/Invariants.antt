use Prim.Native.Nat.{ℕ}
use mathlib.Core.List.{List}
use lib.ListN.{get_or}
use lib.Bits.{bit_or}
use Rattle.checker_tables.proofs.ByStateLaws.{InPlace}
use Rattle.checker_tables.proofs.sets.join_each.Given as goal

abbrev pub each : List ℕ → List ℕ → ℕ → ℕ
each v w j = bit_or (get_or v j 0) (get_or w j 0)

abbrev pub invariant-loop-q : goal.invariant-loop-q
invariant-loop-q l =
    InPlace (each l.initial.v l.w) l.initial.v l.q l.v
