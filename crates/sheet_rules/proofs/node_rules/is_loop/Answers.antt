use borrow.Author.Tests.{eq-eqb}
use Rattle.sheet_rules.proofs.NodeLaws.{loop-at}
use mathlib.Core.Path.{sym}
use Rattle.sheet_rules.proofs.node_rules.is_loop.Goals as goal

pub returns : goal.returns
returns c =
    sym (simp (eq-eqb _ _ c.if-j-x.false)
    (loop-at c.args.nodes.now c.args.j c.requires))
