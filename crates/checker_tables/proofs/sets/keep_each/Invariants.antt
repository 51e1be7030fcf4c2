use Prim.Native.Nat.{ℕ}
use mathlib.Core.List.{List}
use lib.ListN.{get_or}
use Rattle.checker_account.specs.Tables.{kept}
use Rattle.checker_tables.proofs.ByStateLaws.{InPlace}
use Rattle.checker_tables.proofs.sets.keep_each.Given as goal

abbrev pub each : ℕ → List ℕ → ℕ → ℕ
each m v j = kept m (get_or v j 0)

abbrev pub invariant-loop-q : goal.invariant-loop-q
invariant-loop-q l =
    InPlace (each l.m l.initial.v) l.initial.v l.q l.v
