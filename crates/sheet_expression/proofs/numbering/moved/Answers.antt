use Rattle.std.proofs.lemmas.Bool.Decides.{nat_tests}
use native.Mathlib.Omega.{arith}
use Rattle.sheet_expression.specs.Code.{up_one, moved_a_lem, moved_b_lem, shifted}
use Rattle.sheet_expression.proofs.numbering.moved.Goals as goal

pub returns-then-a-start : goal.returns-then-a-start
unfolding shifted moved_a_lem moved_b_lem up_one
returns-then-a-start c = grind (arith, nat_tests)

pub returns-in-5 : goal.returns-in-5
unfolding shifted moved_a_lem moved_b_lem up_one
returns-in-5 c = grind (arith, nat_tests)

pub returns-else-a-start : goal.returns-else-a-start
unfolding shifted moved_a_lem moved_b_lem up_one
returns-else-a-start c = grind (arith, nat_tests)

pub returns-in-3-to-4 : goal.returns-in-3-to-4
unfolding shifted moved_a_lem moved_b_lem up_one
returns-in-3-to-4 c = grind (arith, nat_tests)

pub returns-in-7-to-8 : goal.returns-in-7-to-8
unfolding shifted moved_a_lem moved_b_lem up_one
returns-in-7-to-8 c = grind (arith, nat_tests)

pub returns-in_default : goal.returns-in_default
unfolding shifted moved_a_lem moved_b_lem up_one
returns-in_default c = grind (arith, nat_tests)

pub returns-in_default-2 : goal.returns-in_default-2
unfolding shifted moved_a_lem moved_b_lem up_one
returns-in_default-2 c = grind (arith, nat_tests)
