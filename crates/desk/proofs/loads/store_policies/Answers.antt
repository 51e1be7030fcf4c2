use mathlib.Core.Path.{refl}
use Prim.Native.Nat.{◌+◌, ◌*◌}
use native.Mathlib.Omega.{arith}
use lib.ListN.{take}
use lib.Seq.{length-take-le}
use Rattle.usage.specs.Limits.{edge_fields}
use Rattle.desk.specs.Layout.{edges_at}
use Rattle.desk_positions.proofs.CopyLaws.{part-put}
use Rattle.desk.proofs.LoadLaws.{start_small, policies-stored}
use Rattle.desk.proofs.loads.store_policies.Goals as goal

pub judge_out-requires-clause-small : goal.judge_out-requires-clause-small
judge_out-requires-clause-small c = start_small c.start.result c.start.ensures.value

pub returns : goal.returns
returns c =
    let a = c.args in
    let p = c.requires in
    let m = edge_fields * a.n in
    let rows = take m a.edges.now in
    let long = length-take-le m a.edges.now p.n_in_bounds in
    let put = part-put a.b.now rows edges_at m (edges_at + m) refl (omega arith) long in
    let q = policies-stored a.b.now _ _ rows a.n a.local _ _ p.n_le_most_edges long put c.policies_head-h.ensures
    c.start.ensures.value (rw c.copy_from_slice.ensures.after at c.judge_out.ensures) in
    record { encodes = q.0; within = q.1 }
