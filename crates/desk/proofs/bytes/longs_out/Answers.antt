use mathlib.Core.Path.{refl}
use lib.ListN.{get_or}
use Rattle.desk.specs.Layout.{wide_at}
use Rattle.desk_positions.proofs.CopyLaws.{wides-local, put_next}
use Rattle.desk.proofs.bytes.longs_out.Goals as goal

pub loop-i-preserved : goal.loop-i-preserved
loop-i-preserved g c =
    let a = c.args in
    let t = c.loop-i in
    put_next wide_at 8 wides-local a.b.now a.place a.l.now t.i t.b _ (get_or a.l.now t.i 0) t.invariant c.put_long.ensures refl
