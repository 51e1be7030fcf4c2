use borrow.Author.Tests.{eq-eqb, ne_eqb}
use mathlib.Core.Path.{sym, ◌∙◌}
use Rattle.sheet_fields.proofs.edge_line.Goals as goal

pub returns-then-values-ne-EDGE_FIELDS : goal.returns-then-values-ne-EDGE_FIELDS
returns-then-values-ne-EDGE_FIELDS c = simp (ne_eqb _ _ c.if-values-ne-EDGE_FIELDS.true)

pub returns : goal.returns
returns c = c.edge_fits.ensures ∙ sym (simp (eq-eqb _ _ c.if-values-ne-EDGE_FIELDS.false))
