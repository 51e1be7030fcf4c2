use mathlib.Core.Path.{refl}
use native.Mathlib.Omega.{arith}
use lib.ListN.{get_or}
use Rattle.desk.specs.Layout.{byte_at}
use Rattle.desk_positions.proofs.CopyLaws.{bytes-local, put_next, byte-at}
use Rattle.desk.proofs.bytes.bytes_out.Goals as goal

pub loop-i-preserved : goal.loop-i-preserved
loop-i-preserved g c =
    let a = c.args in
    let t = c.loop-i in
    let v = get_or a.l.now t.i 0 in
    put_next byte_at 1 bytes-local a.b.now a.place a.l.now t.i t.b _ v t.invariant (byte-at t.b a.place t.i v (omega arith)) refl
