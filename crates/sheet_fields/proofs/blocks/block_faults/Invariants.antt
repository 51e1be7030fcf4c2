use mathlib.Core.Path.{◌≡◌}
use Rattle.sheet_fields.specs.Code.{faults}
use Rattle.sheet_fields.proofs.blocks.block_faults.Given as goal

abbrev pub invariant-loop-j : goal.invariant-loop-j
invariant-loop-j l = l.bad ≡ faults l.edges l.k l.most l.paired l.j
