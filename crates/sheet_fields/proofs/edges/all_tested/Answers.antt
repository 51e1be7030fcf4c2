use Prim.Native.Nat.{◌-◌, ◌*◌, ◌/◌}
use mathlib.Core.Path.{sym, ◌∙◌}
use native.Mathlib.Omega.{arith}
use lib.ListN.{length}
use Rattle.usage.specs.Limits.{edge_fields}
use Rattle.sheet_fields.specs.Code.{block_edges}
use Rattle.sheet_fields.proofs.EdgeLaws.{tested-none, tested-later}
use Rattle.sheet_fields.proofs.edges.all_tested.Goals as goal

pub returns-then-n-eq0 : goal.returns-then-n-eq0
returns-then-n-eq0 c = rw c.if-n-eq0.true (tested-none c.args.edges.now)

pub returns-in_err-pairs : goal.returns-in_err-pairs
returns-in_err-pairs c =
    let t = c.args.edges.now in
    let n = length t / edge_fields in
    c.from_residual.ensures ∙ sym (tested-later t (block_edges * ((n - 1) / block_edges)) n (omega arith) (sym c.in_err-pairs.ensures))

pub returns-then-all_plain : goal.returns-then-all_plain
returns-then-all_plain c = c.in_ok-pairs.ensures ∙ c.all_plain.ensures c.if-all_plain.true
