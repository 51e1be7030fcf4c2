use mathlib.Core.Path.{◌≡◌, ◌∙◌}
use native.Mathlib.Omega.{arith}
use borrow.Author.Tests.{not-false}
use Rattle.sheet_fields.proofs.edges.all_plain.Goals as goal

pub loop-i-preserved : goal.loop-i-preserved
loop-i-preserved c = c.loop-i.invariant ∙ c.is_plain.ensures (not-false c.is_plain.result c.if-not-is_plain.false-raw)

pub returns : goal.returns
returns c = λ e.
    let q : c.loop-i.i ≡ c.args.end = omega arith in
    rw q at c.loop-i.invariant
