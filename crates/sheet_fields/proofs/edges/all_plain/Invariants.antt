use mathlib.Core.Path.{◌≡◌}
use Rattle.sheet_fields.specs.Code.{tested_in}
use Rattle.sheet_fields.proofs.edges.all_plain.Given as goal

abbrev pub invariant-loop-i : goal.invariant-loop-i
invariant-loop-i l = tested_in l.edges l.start ≡ tested_in l.edges l.i
