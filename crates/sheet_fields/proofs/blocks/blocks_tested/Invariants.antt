use Prim.Native.Nat.{◌*◌}
use Rattle.std.specs.Prelude.{Some}
use mathlib.Core.Path.{◌≡◌}
use Rattle.sheet_fields.specs.Code.{tested_in, block_edges}
use Rattle.sheet_fields.proofs.blocks.blocks_tested.Given as goal

abbrev pub invariant-loop-i : goal.invariant-loop-i
invariant-loop-i l = Some l.pairs ≡ tested_in l.edges (block_edges * l.i)
