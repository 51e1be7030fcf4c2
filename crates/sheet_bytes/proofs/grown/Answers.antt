use native.Mathlib.Omega.{arith}
use Rattle.sheet_bytes.proofs.ByteLaws.{digit-byte}
use Rattle.sheet_bytes.proofs.grown.Goals as goal

pub overflow_sub-result : goal.overflow_sub-result
overflow_sub-result c = let h = digit-byte c.args.b c.requires in omega arith
