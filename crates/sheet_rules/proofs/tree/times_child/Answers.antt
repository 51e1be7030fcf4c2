use native.Mathlib.Omega.{arith}
use Rattle.usage.specs.Limits.{node_fields}
use native.Mathlib.Nat.{zero-add}
use Prim.Native.Nat.{◌/◌}
use Rattle.sheet_rules.proofs.NodeLaws.{times-begin, times_more, times-end}
use mathlib.Core.Path.{◌∙◌}
use lib.ListN.{length}
use Rattle.sheet_rules.proofs.tree.times_child.Goals as goal

pub loop-j-init : goal.loop-j-init
loop-j-init c = (omega arith, zero-add _ ∙ times-begin c.args.nodes.now c.args.c)

pub loop-j-preserved : goal.loop-j-preserved
loop-j-preserved c =
    let a = c.args in
    let t = c.loop-j in
    let n = length a.nodes.now / node_fields in
    let m = times_more a.nodes.now a.c n t.j c.loop-j-test.true in
    let e = t.invariant.1 in
    let r = c.names_child-count.ensures in
    (omega (arith, r.upper_bound), omega (arith, r.value, m, e))

pub returns : goal.returns
returns c =
    let a = c.args in
    let t = c.loop-j in
    let m = times-end a.nodes.now a.c (length a.nodes.now / node_fields) t.j c.loop-j-test.false in
    let e = t.invariant.1 in
    omega (arith, m, e)
