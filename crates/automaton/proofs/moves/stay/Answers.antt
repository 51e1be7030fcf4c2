use mathlib.Core.Path.{◌≡◌}
use native.Mathlib.Omega.{arith}
use Rattle.automaton.specs.Move.{row_places}
use Rattle.automaton.proofs.RowLaws.{staying-all}
use Rattle.automaton.proofs.moves.stay.Goals as goal

pub returns : goal.returns
returns c =
    let e : c.loop-k.k ≡ row_places = omega arith in
    staying-all _ _ c.told-table (rw e at c.loop-k.invariant)
