use mathlib.Core.Path.{sym, ◌∙◌}
use Rattle.sheet_fields.proofs.line_fits.Goals as goal

pub returns-in-Policies : goal.returns-in-Policies
returns-in-Policies c = c.edge_line.ensures ∙ sym (rw c.in-Policies.is)

pub returns-in-Trace : goal.returns-in-Trace
returns-in-Trace c = c.step_line.ensures ∙ sym (rw c.in-Trace.is)

pub returns-in-Outline : goal.returns-in-Outline
returns-in-Outline c = c.node_line.ensures ∙ sym (rw c.in-Outline.is)
