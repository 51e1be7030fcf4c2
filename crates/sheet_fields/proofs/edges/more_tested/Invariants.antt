use Rattle.std.specs.Prelude.{Some}
use mathlib.Core.Path.{◌≡◌}
use Rattle.sheet_fields.specs.Code.{tested_in}
use Rattle.sheet_fields.proofs.edges.more_tested.Given as goal

abbrev pub invariant-loop-i : goal.invariant-loop-i
invariant-loop-i l = Some l.pairs ≡ tested_in l.edges l.i
