use borrow.Author.Count.{below_more}
use Rattle.outline_nodes.specs.Said.{said_by}
use Rattle.checker_lengths.specs.Filling.{RuleSettled}
use Rattle.checker_lengths.proofs.PassLaws.{pass-then, rule-lasts}
use Prim.Native.Nat.{ℕ}
use Rattle.checker_lengths.proofs.fill.settle_start.Goals as goal

pub loop-c-preserved : goal.loop-c-preserved
loop-c-preserved c =
    let a = c.args in
    let l = c.loop-c in
    let f = said_by a.r.form in
    pass-then
    (λ u x y. below_more (λ (j : ℕ). RuleSettled a.r.watch a.r.rows.now f u a.s j) l.c x y)
    (λ z g h j b. rule-lasts a.r.watch a.r.rows.now a.s.node f z g a.s j (h j b))
    l.invariant c.settle_rule-changed.ensures
