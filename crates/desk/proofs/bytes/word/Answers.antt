use Rattle.desk.specs.Layout.{word_at}
use borrow.Author.Rules.{rules}
use Rattle.desk.proofs.bytes.word.Goals as goal

-- src/bytes.rt:16:1
pub returns : goal.returns
unfolding word_at
returns c = search rules
