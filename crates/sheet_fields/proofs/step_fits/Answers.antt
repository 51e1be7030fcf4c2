use Rattle.usage.specs.Judge.{step_kinds}
use lib.ListN.{get_elem?}
use Rattle.sheet_fields.specs.Fields.{step_ok}
use Rattle.sheet_fields.proofs.RangeLaws.{spans_fit}
use mathlib.Core.Path.{◌∙◌}
use Rattle.sheet_fields.proofs.step_fits.Goals as goal

pub returns : goal.returns
unfolding step_ok
returns c = c.fit.ensures ∙ spans_fit (get_elem? step_kinds c.args.kind) _ _ _ c.step_spans.ensures
