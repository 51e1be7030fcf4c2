use Rattle.std.proofs.lemmas.Result.{err_from_is_err_and}
use Rattle.usage.specs.Limits.{node_places}
use Rattle.sheet_expression.proofs.ReadLaws.{line-number, too-many, nodes-refused, nodes-accepted}
use mathlib.Core.Path.{◌≡◌}
use lib.ListN.{length}
use borrow.Author.Rules.{rules}
use Rattle.sheet_expression.proofs.outline.Goals as goal

pub returns-in_err-nodes : goal.returns-in_err-nodes
returns-in_err-nodes c =
    let p = err_from_is_err_and c.from_residual.result c.from_residual.ensures.1 in
    rw (p.1, p.2) (line-number c.args.text.now c.requires c.in_err-nodes.ensures)

pub returns-then-nodes-gt-MOST_NODES : goal.returns-then-nodes-gt-MOST_NODES
returns-then-nodes-gt-MOST_NODES c =
    too-many c.args.text.now c.requires c.in_ok-nodes.nodes c.in_ok-nodes.ensures c.if-nodes-gt-MOST_NODES.true

pub returns-in_err-checked : goal.returns-in_err-checked
returns-in_err-checked c =
    let long : length c.in_ok-nodes.nodes.table ≡ node_places = search rules in
    let p = err_from_is_err_and c.from_residual-in_err-checked.result c.from_residual-in_err-checked.ensures.1 in
    rw (p.1, p.2) (nodes-refused c.args.text.now c.requires c.in_ok-nodes.nodes c.in_ok-nodes.ensures c.if-nodes-gt-MOST_NODES.false long
    c.in_err-checked.ensures)

pub returns : goal.returns
returns c =
    let long : length c.in_ok-nodes.nodes.table ≡ node_places = search rules in (
      c.if-nodes-gt-MOST_NODES.false,
      nodes-accepted c.args.text.now c.requires c.in_ok-nodes.nodes c.in_ok-nodes.ensures c.if-nodes-gt-MOST_NODES.false long
          c.in_ok-checked.ensures,
    )
