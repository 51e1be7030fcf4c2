use Rattle.desk.specs.Layout.{wide_at}
use borrow.Author.Rules.{rules}
use Rattle.desk.proofs.bytes.long.Goals as goal

-- src/bytes.rt:50:1
pub returns : goal.returns
unfolding wide_at
returns c = search rules
