use Rattle.desk.specs.Layout.{head_in_lem}
use Rattle.desk.proofs.heading.head_in.Goals as goal

-- src/heading.rt:8:1
pub returns : goal.returns
unfolding head_in_lem
returns c = cc
