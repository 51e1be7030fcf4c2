use Rattle.desk.proofs.JudgeByteLaws.{held-put}
use Rattle.desk.proofs.judge.held_out.Goals as goal

pub returns : goal.returns
returns c =
    let a = c.args in
    let p₁ = c.bytes_out.ensures in
    let p₂ = c.bytes_out-2.ensures in
    let p₃ = c.words_out.ensures in
    let p₄ = c.bytes_out-3.ensures in
    let p₅ = c.bytes_out-4.ensures in
    held-put a.k.now a.b.now _ _ _ _ _ p₁.put p₂.put p₃.put p₄.put p₅.put p₁.l_len p₂.l_len p₃.l_len p₄.l_len p₅.l_len
