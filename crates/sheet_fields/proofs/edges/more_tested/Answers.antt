use Prim.Native.Nat.{◌+◌}
use mathlib.Core.Path.{sym, ◌∙◌}
use native.Mathlib.Omega.{arith}
use Rattle.std.specs.Prelude.{Some}
use Rattle.sheet_fields.proofs.EdgeLaws.{tested-more, tested-later}
use Rattle.sheet_fields.proofs.edges.more_tested.Goals as goal

pub returns-in_err-pairs : goal.returns-in_err-pairs
returns-in_err-pairs c =
    let t = c.args.edges.now in
    let l = c.loop-i in
    let e = sym (c.in_err-pairs.ensures ∙ tested-more t l.i (Some l.pairs) l.invariant) in
    c.from_residual.ensures ∙ sym (tested-later t (l.i + 1) c.args.end (omega arith) e)

pub loop-i-preserved : goal.loop-i-preserved
loop-i-preserved c =
    let l = c.loop-i in
    c.in_ok-pairs.ensures ∙ tested-more c.args.edges.now l.i (Some l.pairs) l.invariant
