use mathlib.Core.Path.{refl, sym, ◌∙◌, subst}
use mathlib.Core.Bool.{Bool}
use lib.ListN.{replicate}
use Rattle.usage.proofs.Logic.{not-true, not-false}
use Rattle.checker_tables.proofs.FitLaws.{fits-rule}
use Rattle.checker_lengths.specs.Entries.{size, no_length}
use Rattle.checker_lengths.specs.Filling.{FullIf}
use Rattle.checker_lengths.proofs.fill.fill.Goals as goal

pub returns-then-not-fits : goal.returns-then-not-fits
returns-then-not-fits c =
    let a = c.args in
    let f = c.fits in
    subst (λ (b : Bool). FullIf b a.w a.rows.now a.nodes.now a.u.now (replicate size no_length))
    (sym (sym f.ensures ∙ not-true f.result c.if-not-fits.true-raw)) refl

pub settle_all-requires : goal.settle_all-requires
settle_all-requires c =
    let a = c.args in
    let f = c.fits in
    fits-rule a.nodes.now (sym f.ensures ∙ not-false f.result c.if-not-fits.false-raw)
