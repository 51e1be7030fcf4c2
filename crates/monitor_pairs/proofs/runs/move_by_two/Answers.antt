use Prim.Native.Nat.{ℕ}
use mathlib.Core.Path.{ap₂}
use lib.Bits.{bit_and, bit_or}
use Rattle.monitor_pairs.specs.Code.{two_moved}
use Rattle.monitor_pairs.proofs.runs.move_by_two.Goals as goal

pub returns : goal.returns
unfolding two_moved
returns c =
    let a = c.args in
    ap₂ (λ (u v : ℕ). bit_or (bit_or (bit_and a.x a.two.keep) u) v) c.pick_any.ensures c.pick_any-2.ensures
