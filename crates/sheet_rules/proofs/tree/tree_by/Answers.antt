use lib.Dec.{eqb}
use Rattle.sheet_rules.proofs.ChildLaws.{tree-no, tree-root, tree-inner}
use mathlib.Core.Path.{sym, ap, ◌∙◌}
use Rattle.sheet_rules.proofs.tree.tree_by.Goals as goal

pub returns-then-not-children_between : goal.returns-then-not-children_between
returns-then-not-children_between c =
    let r = c.children_between in
    sym (tree-no c.args.table.now c.args.k c.requires.k_in_bounds r.result r.ensures c.if-not-children_between.true-raw)

pub returns-then-k-eq0 : goal.returns-then-k-eq0
returns-then-k-eq0 c =
    let r = c.children_between in
    ap (λ n. eqb n 0) c.requires.times_value
    ∙ sym (tree-root c.args.table.now c.args.k c.requires.k_in_bounds r.result r.ensures c.if-not-children_between.false-raw c.if-k-eq0.true)

pub returns : goal.returns
returns c =
    let r = c.children_between in
    ap (λ n. eqb n 1) c.requires.times_value
    ∙ sym (tree-inner c.args.table.now c.args.k c.requires.k_in_bounds r.result r.ensures c.if-not-children_between.false-raw c.if-k-eq0.false)
