use borrow.Author.Tests.{eq-eqb, ne_eqb, lt-ltb, le-ltb}
use mathlib.Core.Path.{sym, ◌∙◌}
use Rattle.sheet_fields.proofs.node_line.Goals as goal

pub returns-then-values-ne-NODE_LINE_FIELDS : goal.returns-then-values-ne-NODE_LINE_FIELDS
returns-then-values-ne-NODE_LINE_FIELDS c = simp (ne_eqb _ _ c.if-values-ne-NODE_LINE_FIELDS.true)

pub returns-then-values-ge-NODES : goal.returns-then-values-ge-NODES
returns-then-values-ge-NODES c = simp (eq-eqb _ _ c.if-values-ne-NODE_LINE_FIELDS.false, le-ltb _ _ c.if-values-ge-NODES.true)

pub returns : goal.returns
returns c =
    c.node_fits.ensures ∙ sym (simp
    (eq-eqb _ _ c.if-values-ne-NODE_LINE_FIELDS.false, lt-ltb _ _ c.if-values-ge-NODES.false))
