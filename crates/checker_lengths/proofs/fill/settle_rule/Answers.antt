use Rattle.checker_lengths.proofs.fill.settle_rule.Goals as goal

pub returns-then-first-s : goal.returns-then-first-s
returns-then-first-s c =
    let a = c.args in
    let r = c.settle_sequence in
    rw c.in-Sequence.is (r.ensures a.r.watch a.r.rows.now)
