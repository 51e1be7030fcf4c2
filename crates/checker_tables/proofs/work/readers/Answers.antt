use mathlib.Core.Path.{refl, sym, ◌∙◌}
use Rattle.checker_tables.proofs.FitLaws.{fits-rule}
use Rattle.checker_tables.proofs.work.readers.Goals as goal

pub note_all-requires : goal.note_all-requires
note_all-requires c =
    let a = c.args in
    record { nodes_fit = fits-rule a.nodes.now (sym c.fits.ensures ∙ c.if-fits.true); masks_value = refl }
