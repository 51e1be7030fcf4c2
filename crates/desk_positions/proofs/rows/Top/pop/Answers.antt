use Rattle.desk_positions.specs.Rows.{popped, put}
use borrow.Author.Rules.{rules}
use Rattle.desk_positions.proofs.rows.Top.pop.Goals as goal

pub returns : goal.returns
unfolding popped put
returns c = search rules
