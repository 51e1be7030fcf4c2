use mathlib.Core.Path.{refl}
use Rattle.desk.specs.Layout.{edges_at}
use Rattle.desk.proofs.HeadLaws.{head-put, put-within}
use Rattle.desk.proofs.heading.head_out.Goals as goal

pub returns : goal.returns
returns c =
    let a = c.args in
    let p = c.words_out.ensures.put in
    record { b_after = head-put a.b.now _ a.h p; within = put-within edges_at p refl }
