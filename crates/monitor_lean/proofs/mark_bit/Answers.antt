use Prim.Native.Nat.{◌/◌, ◌^◌}
use native.Mathlib.Nat.{lt_of_le_of_lt}
use lib.Bits.{and_le_r}
use lib.Dec.{lit<}
use Rattle.monitor_lean.proofs.ByteLaws.{mark-shifted}
use Rattle.monitor_lean.proofs.mark_bit.Goals as goal

pub overflow_cast-bit : goal.overflow_cast-bit
overflow_cast-bit c = record { fits = lt_of_le_of_lt (and_le_r (c.args.m / 2 ^ c.args.i) 1) (lit< tt) }

pub returns : goal.returns
returns c = mark-shifted c.args.m c.args.i c.args.p c.requires.p_lt_policies
