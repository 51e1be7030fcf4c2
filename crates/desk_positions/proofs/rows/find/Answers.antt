use Rattle.desk_positions.proofs.CellLaws.{member-none, member-more, member-found}
use native.Mathlib.Omega.{arith}
use mathlib.Core.Path.{sym, ◌∙◌}
use borrow.Author.Rules.{rules}
use Rattle.desk_positions.proofs.rows.find.Goals as goal

-- src/lib.rt:208:5
pub loop-i-init : goal.loop-i-init
loop-i-init c = (search rules, member-none c.args.t.now c.args.r.now)

-- src/lib.rt:210:13
pub returns-then-same : goal.returns-then-same
returns-then-same c =
    let a = c.args in
    let t = c.loop-i in
    member-found a.t.now a.r.now t.i a.n (omega arith) (sym c.same.ensures ∙ c.if-same.true)

-- src/lib.rt:208:5
pub loop-i-preserved : goal.loop-i-preserved
loop-i-preserved c =
    let a = c.args in
    let t = c.loop-i in
    (search rules, member-more a.t.now a.r.now t.i t.invariant.1 (sym c.same.ensures ∙ c.if-same.false))
