use Rattle.usage.specs.Tests.{node_ok}
use Rattle.usage.specs.Outline.{node_kinds}
use lib.ListN.{get_elem?}
use Rattle.sheet_fields.proofs.RangeLaws.{spans_fit}
use mathlib.Core.Path.{◌∙◌}
use Rattle.sheet_fields.proofs.node_fits.Goals as goal

pub returns : goal.returns
unfolding node_ok
returns c = c.fit.ensures ∙ spans_fit (get_elem? node_kinds c.args.kind) _ _ _ c.node_spans.ensures
