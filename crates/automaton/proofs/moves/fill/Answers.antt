-- `fill` meets its contract. The tables are cleared, then hold the ends of the matching edges, then the rows.
use mathlib.Core.Path.{ap, ◌∙◌}
use Rattle.automaton.specs.Code.{stayed}
use Rattle.automaton.proofs.RowLaws.{stayed-rows}
use Rattle.automaton.proofs.moves.fill.Goals as goal

pub returns : goal.returns
returns c =
    let g = c.collect_ends.ensures in
    record { own_after = c.stay.ensures ∙ ap stayed g.own_after ∙ stayed-rows _ _ _ _ _; other_after = c.stay-2.ensures ∙ ap stayed g.other_after ∙ stayed-rows _ _ _ _ _ }
