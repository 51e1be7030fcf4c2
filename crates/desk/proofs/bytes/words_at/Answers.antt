use native.Mathlib.Omega.{arith}
use mathlib.Core.Path.{◌≡◌}
use Rattle.std.proofs.lemmas.List.{length-replicate}
use Rattle.desk.specs.Layout.{word_at}
use Rattle.desk_positions.proofs.CopyLaws.{got-all}
use Rattle.desk.proofs.bytes.words_at.Goals as goal

pub returns : goal.returns
returns g c =
    let e : c.loop-i.i ≡ g.row.N = omega arith in
    got-all word_at 4 c.args.b.now c.args.place g.row.N _ c.loop-i.t (rw e at c.loop-i.invariant) (length-replicate _ _)
