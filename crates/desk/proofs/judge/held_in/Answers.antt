use Rattle.desk.specs.JudgeBytes.{held_in_lem}
use Rattle.desk.proofs.judge.held_in.Goals as goal

pub returns : goal.returns
unfolding held_in_lem
returns c = cc
