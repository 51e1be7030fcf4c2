use borrow.Author.Tests.{eq-eqb, ne_eqb}
use mathlib.Core.Path.{sym, ◌∙◌}
use Rattle.sheet_fields.proofs.step_line.Goals as goal

pub returns-then-values-ne-STEP_FIELDS : goal.returns-then-values-ne-STEP_FIELDS
returns-then-values-ne-STEP_FIELDS c = simp (ne_eqb _ _ c.if-values-ne-STEP_FIELDS.true)

pub returns : goal.returns
returns c = c.step_fits.ensures ∙ sym (simp (eq-eqb _ _ c.if-values-ne-STEP_FIELDS.false))
