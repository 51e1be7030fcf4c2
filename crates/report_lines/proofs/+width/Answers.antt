use mathlib.Core.Path.{sym}
use mir.Syntax.{w64}
use mir.Val.{Fits}
use native.Mathlib.Omega.{arith}
use borrow.Author.Rules.{rules}
use Rattle.report_lines.proofs.DecimalLaws.{length-one, length_more, length-below}
use Rattle.report_lines.proofs.+width.Goals as goal

pub returns-then-n-ge10 : goal.returns-then-n-ge10
returns-then-n-ge10 t c =
    let n = c.args.n in
    let f : Fits w64 n = search rules in
    let e = length_more n c.if-n-ge10.true in
    let l = length-below 19 n (let h = f.fits in omega arith) in
    record { value = omega arith; upper_bound = omega arith }

pub returns-clause-value : goal.returns-clause-value
returns-clause-value t c = sym (length-one c.args.n c.if-n-ge10.false)
