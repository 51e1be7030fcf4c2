use Rattle.desk_positions.proofs.CellLaws.{differ, agree}
use native.Mathlib.Omega.{arith}
use mathlib.Core.Path.{sym, ◌∙◌}
use Rattle.desk_positions.proofs.rows.same.Goals as goal

-- src/lib.rt:162:9
pub returns-then-r-top : goal.returns-then-r-top
returns-then-r-top c =
    let a = c.args in
    let p = c.requires in
    differ a.t.now a.i a.r.now a.top p.top_lt_row_width (λ e. c.if-r-top.true (e ∙ sym c.word.ensures))

-- src/lib.rt:167:13
pub returns-then-r-j : goal.returns-then-r-j
returns-then-r-j c =
    let a = c.args in
    let t = c.loop-j in
    differ a.t.now a.i a.r.now t.j (omega arith) (λ e. c.if-r-j.true (e ∙ sym c.word-in-loop-j.ensures))

-- src/lib.rt:154:1
pub returns : goal.returns
returns c =
    let a = c.args in
    agree a.t.now a.i a.r.now c.told-r (λ m l. c.loop-j.invariant.1 m (omega arith))
