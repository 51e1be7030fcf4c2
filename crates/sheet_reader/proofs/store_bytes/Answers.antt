use Rattle.sheet_reader.proofs.StoreLaws.{none_filled, one-filled, all-filled}
use lib.ListN.{get_or}
use Rattle.sheet_reader.proofs.store_bytes.Goals as goal

pub loop-k-init : goal.loop-k-init
loop-k-init g c = none_filled _ _ _

pub loop-k-preserved : goal.loop-k-preserved
loop-k-preserved g c =
    let a = c.args in
    let t = c.loop-k in
    let p = c.requires.1.1 in
    let told = p.0 t.k c.place.result c.loop-k-test.true c.place.ensures in
    rw told (one-filled (λ i. get_or a.buffer.now (g.at i) 0) a.table.now a.m t.table t.k t.invariant c.loop-k-test.true p.1.1.0)

pub returns : goal.returns
returns g c =
    let a = c.args in
    let t = c.loop-k in
    all-filled (λ i. get_or a.buffer.now (g.at i) 0) a.table.now a.m t.table t.k t.invariant c.loop-k-test.false
