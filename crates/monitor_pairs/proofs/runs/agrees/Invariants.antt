use Prim.Native.Nat.{ℕ, ◌^◌, ◌<◌}
use mathlib.Core.Path.{◌≡◌}
use lib.ListN.{get_or}
use Rattle.monitor_pairs.specs.Code.{two_moved}
use Rattle.monitor_pairs.proofs.runs.agrees.Given as goal

abbrev pub invariant-loop-q : goal.invariant-loop-q
invariant-loop-q l =
    ((j : ℕ) → j < l.q → two_moved l.two.keep l.two.low l.two.lows l.two.high l.two.highs (2 ^ j) ≡ get_or l.rows j 0)
