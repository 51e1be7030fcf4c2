use native.Mathlib.Omega.{arith}
use Prim.Native.Nat.{◌-◌}
use Rattle.usage.specs.Tables.{nodes_of}
use Rattle.usage.specs.Tests.{above}
use Rattle.sheet_rules.proofs.NodeLaws.{found-above, up_above, on-above}
use mathlib.Core.Path.{◌≡◌, sym, ◌∙◌}
use Rattle.sheet_rules.proofs.node_rules.inside.Goals as goal

pub returns-then-sought : goal.returns-then-sought
returns-then-sought g c =
    let t = c.loop-j in
    let told = c.requires.1.1.1 (t.j - 1) c.sought.result (omega arith) c.sought.ensures in
    sym (sym t.invariant ∙ found-above (nodes_of c.args.nodes.now) g.test t.at t.j c.loop-j-test.true
    (sym c.is_child.ensures ∙ c.if-is_child.true) (sym told ∙ c.if-sought.true))

pub loop-j-preserved-then-is_child : goal.loop-j-preserved-then-is_child
loop-j-preserved-then-is_child g c =
    let t = c.loop-j in
    let told = c.requires.1.1.1 (t.j - 1) c.sought.result (omega arith) c.sought.ensures in
    sym (up_above (nodes_of c.args.nodes.now) g.test t.at t.j c.loop-j-test.true
    (sym c.is_child.ensures ∙ c.if-is_child.true) (sym told ∙ c.if-sought.false)) ∙ t.invariant

pub loop-j-preserved : goal.loop-j-preserved
loop-j-preserved g c =
    let t = c.loop-j in
    sym (on-above (nodes_of c.args.nodes.now) g.test t.at t.j c.loop-j-test.true (sym c.is_child.ensures ∙ c.if-is_child.false))
    ∙ t.invariant

pub returns : goal.returns
unfolding above
returns g c =
    let z : c.loop-j.j ≡ 0 = omega arith in
    rw z at c.loop-j.invariant
