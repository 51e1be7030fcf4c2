use Rattle.desk.proofs.JudgeByteLaws.{pairs-put, arrays-left}
use Rattle.desk.proofs.judge.arrays_out.Goals as goal

pub returns : goal.returns
returns c =
    let a = c.args in
    let o = c.bytes_out.ensures in
    let p = pairs-put a.b.now _ _ o.put o.l_len in
    arrays-left a.b.now _ _ a.s p.0 p.1 c.held_out.ensures
