use Prim.Native.Nat.{ℕ, ◌/◌}
use mathlib.Core.List.{List}
use lib.ListN.{get_or}
use Rattle.checker_tables.proofs.ByStateLaws.{InPlace}
use Rattle.checker_tables.proofs.sets.upper_each.Given as goal

abbrev pub each : List ℕ → ℕ → ℕ
each v j = get_or v j 0 / 256

abbrev pub invariant-loop-q : goal.invariant-loop-q
invariant-loop-q l =
    InPlace (each l.initial.v) l.initial.v l.q l.v
