use Prim.Native.Nat.{◌/◌}
use Rattle.usage.specs.Limits.{node_fields}
use Rattle.usage.specs.Tables.{nodes_of}
use Rattle.usage.specs.Tests.{tree_ok_lem}
use borrow.Author.Tests.{not-true, not-false}
use Rattle.sheet_rules.specs.Code.{is_nothing}
use Rattle.sheet_rules.proofs.RuleLaws.{lowest-here, lowest-more, lowest-end}
use mathlib.Core.Path.{sym, ap, ◌∙◌}
use lib.ListN.{length}
use Rattle.sheet_rules.proofs.tree.trees_ok.Goals as goal

pub returns-then-not-tree_by : goal.returns-then-not-tree_by
returns-then-not-tree_by c =
    let g = c.args.table.now in
    let t = c.loop-k in
    sym (ap is_nothing (sym t.invariant ∙ lowest-here (tree_ok_lem (nodes_of g)) (length g / node_fields) t.k c.loop-k-test.true
    (sym c.tree_by.ensures ∙ not-true c.tree_by.result c.if-not-tree_by.true-raw)))

pub loop-k-preserved : goal.loop-k-preserved
loop-k-preserved c =
    let g = c.args.table.now in
    let t = c.loop-k in
    sym (lowest-more (tree_ok_lem (nodes_of g)) (length g / node_fields) t.k c.loop-k-test.true
    (sym c.tree_by.ensures ∙ not-false c.tree_by.result c.if-not-tree_by.false-raw)) ∙ t.invariant

pub returns : goal.returns
returns c =
    let g = c.args.table.now in
    let t = c.loop-k in
    sym (ap is_nothing (sym t.invariant ∙ lowest-end (tree_ok_lem (nodes_of g)) (length g / node_fields) t.k c.loop-k-test.false))
