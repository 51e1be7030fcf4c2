-- `stay` meets its contract. The invariant: the places below k are as they are to be, the others as they were.
use Rattle.automaton.proofs.RowLaws.{Staying}
use Rattle.automaton.proofs.moves.stay.Given as goal

abbrev pub invariant-loop-k : goal.invariant-loop-k
invariant-loop-k l = Staying l.initial.table l.table l.k
