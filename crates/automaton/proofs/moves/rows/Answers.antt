-- `rows` meets its contract: nothing is the second resource of an instance that has one.
use mathlib.Core.Bool.{true, false}
use mathlib.Core.Path.{◌∙◌}
use Rattle.automaton.proofs.PlaceLaws.{rows-one}
use Rattle.automaton.proofs.moves.rows.Goals as goal

pub returns : goal.returns
returns c = record { own_after = c.fill.ensures.own_after ∙ rows-one _ _ _ true; other_after = c.fill.ensures.other_after ∙ rows-one _ _ _ false }
