use Prim.Native.Nat.{◌*◌, ◌+◌, ◌-◌}
use lib.ListN.{length}
use Rattle.sheet_grammar.specs.Grammar.{plus, dot}
use Rattle.sheet_expression.proofs.GrowingLaws.{Going}
use Rattle.sheet_expression.proofs.phrases.+choice_item_sequence.Given as goal

abbrev pub decreases-choice : goal.decreases-choice
decreases-choice l = 4 * (length l.text.now - l.from.now.at) + 2

abbrev pub decreases-sequence : goal.decreases-sequence
decreases-sequence l = 4 * (length l.text.now - l.from.now.at) + 1

abbrev pub decreases-item : goal.decreases-item
decreases-item l = 4 * (length l.text.now - l.from.now.at)

abbrev pub invariant-choice-loop-loops : goal.invariant-choice-loop-loops
invariant-choice-loop-loops l = Going plus l.text l.from.at l.nest l.loops l.from.nodes l.r

abbrev pub decreases-choice-loop-loops : goal.decreases-choice-loop-loops
decreases-choice-loop-loops l = length l.text - l.r.at

abbrev pub invariant-sequence-loop-loops : goal.invariant-sequence-loop-loops
invariant-sequence-loop-loops l = Going dot l.text l.from.at l.nest l.loops l.from.nodes l.r

abbrev pub decreases-sequence-loop-loops : goal.decreases-sequence-loop-loops
decreases-sequence-loop-loops l = length l.text - l.r.at
