use Rattle.desk_positions.specs.Rows.{pushed, put}
use borrow.Author.Rules.{rules}
use Rattle.desk_positions.proofs.rows.push.Goals as goal

pub returns : goal.returns
unfolding pushed put
returns c = search rules
