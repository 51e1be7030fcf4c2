use mathlib.Core.Path.{ap, ◌∙◌}
use Rattle.std.specs.Option.{is_some}
use Rattle.sheet_fields.proofs.EdgeLaws.{table_fits}
use Rattle.sheet_fields.proofs.edges.edge_table_ok.Goals as goal

pub returns : goal.returns
returns c = c.is_some.ensures ∙ ap is_some c.edge_table.ensures ∙ table_fits c.args.edges.now
