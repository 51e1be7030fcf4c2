use Rattle.usage.specs.Tests.{is_none}
use borrow.Author.Tests.{not-true, not-false}
use Rattle.sheet_rules.proofs.FaultLaws.{part_left, too-many-nodes, no-fit, fit, few-nodes, six-fails, six-holds, fine}
use mathlib.Core.Path.{sym, ap, ◌∙◌}
use Rattle.sheet_rules.proofs.node_table_ok.Goals as goal

pub returns-then-table-ne0 : goal.returns-then-table-ne0
returns-then-table-ne0 c = sym (part_left c.args.table.now c.if-table-ne0.true)

pub returns-then-table-gt-NODE_TABLE : goal.returns-then-table-gt-NODE_TABLE
returns-then-table-gt-NODE_TABLE c = sym (too-many-nodes c.args.table.now c.if-table-ne0.false c.if-table-gt-NODE_TABLE.true)

pub returns-then-not-all_fit : goal.returns-then-not-all_fit
returns-then-not-all_fit c =
    sym (no-fit c.args.table.now c.if-table-ne0.false
    c.if-table-gt-NODE_TABLE.false (sym c.all_fit.ensures ∙ not-true c.all_fit.result c.if-not-all_fit.true-raw))

pub returns-then-table-lt-NODE_FIELDS : goal.returns-then-table-lt-NODE_FIELDS
returns-then-table-lt-NODE_FIELDS c =
    let t = c.args.table.now in
    let f = c.all_fit in
    let is = fit t c.if-table-ne0.false c.if-table-gt-NODE_TABLE.false (sym f.ensures ∙ not-false f.result c.if-not-all_fit.false-raw) in
    sym (is ∙ few-nodes t c.if-table-lt-NODE_FIELDS.true)

pub returns-then-not-trees_ok : goal.returns-then-not-trees_ok
returns-then-not-trees_ok c =
    let t = c.args.table.now in
    let f = c.all_fit in
    let is = fit t c.if-table-ne0.false c.if-table-gt-NODE_TABLE.false (sym f.ensures ∙ not-false f.result c.if-not-all_fit.false-raw) in
    let s = c.trees_ok in
    sym (is ∙ six-fails t c.if-table-lt-NODE_FIELDS.false (sym s.ensures ∙ not-true s.result c.if-not-trees_ok.true-raw))

pub returns : goal.returns
returns c =
    let t = c.args.table.now in
    let f = c.all_fit in
    let is = fit t c.if-table-ne0.false c.if-table-gt-NODE_TABLE.false (sym f.ensures ∙ not-false f.result c.if-not-all_fit.false-raw) in
    let s = c.trees_ok in
    let e = six-holds t c.if-table-lt-NODE_FIELDS.false (sym s.ensures ∙ not-false s.result c.if-not-trees_ok.false-raw) in
    c.is_ok.ensures.value ∙ fine c.loops_and_names.result ∙ ap is_none c.loops_and_names.ensures ∙ sym (is ∙ e)
