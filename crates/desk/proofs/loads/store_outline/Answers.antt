use mathlib.Core.Path.{refl}
use Prim.Native.Nat.{◌+◌}
use native.Mathlib.Omega.{arith}
use lib.ListN.{length}
use Rattle.usage.proofs.TableLaws.{decides-node-table}
use Rattle.desk.specs.Layout.{nodes_at}
use Rattle.desk_positions.proofs.CopyLaws.{part-put}
use Rattle.desk.proofs.LoadLaws.{start_small}
use Rattle.desk.proofs.OutlineLoadLaws.{outline-kept}
use Rattle.desk.proofs.loads.store_outline.Goals as goal

pub judge_out-requires-clause-small : goal.judge_out-requires-clause-small
judge_out-requires-clause-small c = start_small c.start.result c.start.ensures.value

pub returns : goal.returns
returns c =
    let a = c.args in
    let p = c.requires in
    let o = c.longs_out.ensures in
    let m = length a.nodes.now in
    let put = part-put a.b.now a.nodes.now nodes_at m (nodes_at + m) refl (omega arith) refl in
    let q = outline-kept a.b.now _ _ _ _ a.nodes.now a.marks.now a.h c.start_rows-k.result p.head_is_ok p.policies_loaded p.nodes_valid p.nodes_len_bound
    put (rw c.copy_from_slice.ensures.after at o.put) o.l_len c.start_rows-k.ensures.within
    (c.start_rows-k.ensures.settled_in ((decides-node-table a.nodes.now).0 p.nodes_valid).outline) _ _ c.outline_head-g.ensures c.start.ensures.value
    c.judge_out.ensures in
    record { encodes = q.0; within = q.1 }
