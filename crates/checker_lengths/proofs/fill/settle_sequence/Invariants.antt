use mathlib.Core.Bool.{Bool}
use mathlib.Core.Option.{some}
use mathlib.Core.List.{List}
use Prim.Native.Nat.{ℕ, ◌≤◌, ◌<◌}
use Rattle.usage.specs.Outline.{sequence}
use Rattle.checker_lengths.specs.declared.Entry.{Entry}
use Rattle.checker_lengths.specs.declared.WatchOne.{WatchOne}
use Rattle.checker_lengths.specs.Offers.{toward, low_end_lem}
use Rattle.checker_lengths.specs.Code.{Pass}
use Rattle.checker_lengths.specs.Filling.{Settled}
use Rattle.checker_lengths.proofs.fill.settle_sequence.Given as goal

-- the aims below i are settled, by which t₀ has become t
abbrev pub Below : Entry → ℕ → ℕ → ℕ → ℕ → List ℕ → List ℕ → Bool → Type 0
Below s a b c i t₀ t r = (w : WatchOne) (rows : List ℕ) → Pass w rows s.node (some (sequence a b))
    (λ u. (j : ℕ) → j < i → low_end_lem s.meaning ≤ j → Settled w rows (some (sequence a b)) u (toward s j) c) t₀ t r

abbrev pub invariant-loop-i : goal.invariant-loop-i
invariant-loop-i l = Below l.s l.a l.b l.c l.i l.initial.t l.t l.changed
