use mathlib.Core.Path.{sym, ◌∙◌}
use Rattle.checker_tables.proofs.FitLaws.{fits-rule}
use Rattle.checker_tables.proofs.search.Goals as goal

pub fill-requires-clause-nodes_fit : goal.fill-requires-clause-nodes_fit
fill-requires-clause-nodes_fit g c = fits-rule c.args.nodes.now (sym c.fits.ensures ∙ c.if-not-fits.false)

pub fill-requires-then-w-clause-nodes_fit : goal.fill-requires-then-w-clause-nodes_fit
fill-requires-then-w-clause-nodes_fit g c = fits-rule c.args.nodes.now (sym c.fits.ensures ∙ c.if-not-fits.false)

pub found-requires-clause-nodes_fit : goal.found-requires-clause-nodes_fit
found-requires-clause-nodes_fit g c = fits-rule c.args.nodes.now (sym c.fits.ensures ∙ c.if-not-fits.false)

pub found-requires-2-clause-nodes_fit : goal.found-requires-2-clause-nodes_fit
found-requires-2-clause-nodes_fit g c = fits-rule c.args.nodes.now (sym c.fits.ensures ∙ c.if-not-fits.false)
