use native.Mathlib.Omega.{arith}
use Rattle.usage.specs.Limits.{node_fields}
use Rattle.usage.specs.Tables.{node_at_lem, nodes_of}
use Rattle.usage.specs.Tests.{node_ok}
use Prim.Native.Nat.{◌/◌}
use Rattle.sheet_fields.proofs.EveryLaws.{one-fails, all_pass}
use mathlib.Core.Path.{sym}
use lib.ListN.{length}
use Rattle.sheet_rules.proofs.all_fit.Goals as goal

pub returns-then-not-node_fits : goal.returns-then-not-node_fits
unfolding nodes_of
returns-then-not-node_fits c =
    let l = c.args.table.now in
    let t = c.loop-k in
    let r = c.node_fits in
    sym (one-fails node_ok (node_at_lem l) (length l / node_fields) t.k r.result r.ensures
    c.loop-k-test.true c.if-not-node_fits.true-raw)

pub returns : goal.returns
unfolding nodes_of
returns c =
    let l = c.args.table.now in
    sym (all_pass node_ok (node_at_lem l) (length l / node_fields) (λ i h. c.loop-k.invariant i (omega arith)))
