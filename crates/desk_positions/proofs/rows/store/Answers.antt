use Prim.Native.Nat.{◌*◌}
use Rattle.desk_positions.specs.Bytes.{word_at}
use Rattle.desk_positions.specs.Rows.{row_bytes}
use Rattle.desk_positions.proofs.CopyLaws.{words-local, put_next}
use native.Mathlib.Omega.{arith}
use mathlib.Core.Path.{refl}
use lib.ListN.{get_or}
use Rattle.desk_positions.proofs.rows.store.Goals as goal

-- src/lib.rt:181:5
pub loop-j-preserved : goal.loop-j-preserved
loop-j-preserved c =
    let a = c.args in
    let t = c.loop-j in
    let g = put_next word_at 4 words-local a.t.now (row_bytes * a.i) a.r.now t.j t.t _ (get_or a.r.now t.j 0) t.invariant.1.1
    c.put_word.ensures refl in
    (omega arith, (g.long, g))
