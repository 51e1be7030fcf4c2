use mathlib.Core.Path.{◌≡◌}
use mathlib.Core.List.{List}
use Prim.Native.Nat.{ℕ, ◌+◌}
use lib.ListN.{get_or}
use Rattle.checker_account.specs.Tables.{joined_at}
use Rattle.checker_account.specs.Filling.{repeat, grown}
use Rattle.checker_tables.proofs.ends.join_sets.Given as goal

abbrev pub steps : ℕ → List ℕ → ℕ → List ℕ → List ℕ
steps i v q u = joined_at u (i + q) (get_or v q 0)

abbrev pub invariant-loop-q : goal.invariant-loop-q
invariant-loop-q l =
    (l.t ≡ repeat (steps l.i l.v) l.q l.initial.t) × (l.changed ≡ grown l.initial.t l.t)
