use Rattle.sheet_expression.proofs.LabelLaws.{bound-loop}
use native.Mathlib.Omega.{arith}
use Rattle.sheet_expression.proofs.phrases.labelled.Goals as goal

pub returns : goal.returns
returns c = let a = c.args in bound-loop a.label a.loops a.count (omega arith)
