use Rattle.desk.specs.JudgeBytes.{head_with}
use Rattle.desk.proofs.JudgeByteLaws.{all-stored}
use Rattle.desk.proofs.judge.judge_out.Goals as goal

pub returns : goal.returns
unfolding head_with
returns c =
    let a = c.args in
    let o = c.sizes_out.ensures in
    all-stored a.b.now _ _ a.h a.s a.positions c.arrays_out.ensures o.within o.b_after
