use mathlib.Core.Path.{sym, ◌∙◌}
use Rattle.sheet_fields.proofs.EdgeLaws.{not-whole, too_long, out_of_range, too-many-pairs, good-table}
use Rattle.sheet_fields.proofs.edges.edge_table.Goals as goal

pub returns-then-edges-ne0 : goal.returns-then-edges-ne0
returns-then-edges-ne0 c = sym (not-whole _ c.if-edges-ne0.true)

pub returns-then-edges-gt-MOST_EDGES : goal.returns-then-edges-gt-MOST_EDGES
returns-then-edges-gt-MOST_EDGES c = sym (too_long _ c.if-edges-gt-MOST_EDGES.true)

pub returns-in_err-pairs : goal.returns-in_err-pairs
returns-in_err-pairs c =
    c.from_residual.ensures
    ∙ sym (out_of_range c.args.edges.now c.if-edges-ne0.false c.if-edges-gt-MOST_EDGES.false (sym c.in_err-pairs.ensures))

pub returns-then-many : goal.returns-then-many
returns-then-many c =
    sym (too-many-pairs c.args.edges.now c.if-edges-ne0.false c.if-edges-gt-MOST_EDGES.false c.in_ok-pairs.pairs c.in_ok-pairs.ensures
    (sym c.many.ensures ∙ c.if-many.true))

pub returns : goal.returns
returns c =
    good-table c.args.edges.now c.if-edges-ne0.false c.if-edges-gt-MOST_EDGES.false c.in_ok-pairs.pairs c.in_ok-pairs.ensures
    (sym c.many.ensures ∙ c.if-many.false)
