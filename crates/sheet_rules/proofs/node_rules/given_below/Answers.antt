use native.Mathlib.Omega.{arith}
use Rattle.usage.specs.Tables.{nodes_of}
use Rattle.usage.specs.Tests.{some_below, gives_name_lem}
use Rattle.sheet_rules.proofs.NodeLaws.{found_below, on_below}
use mathlib.Core.Path.{◌≡◌, sym, ◌∙◌}
use Rattle.sheet_rules.proofs.node_rules.given_below.Goals as goal

pub returns-then-gives_name : goal.returns-then-gives_name
returns-then-gives_name c =
    let a = c.args in
    let ns = nodes_of a.nodes.now in
    sym (sym c.loop-j.invariant ∙ found_below ns (gives_name_lem ns a.x) 0 c.loop-j.j
    c.loop-j-test.true (sym c.gives_name.ensures ∙ c.if-gives_name.true))

pub loop-j-preserved : goal.loop-j-preserved
loop-j-preserved c =
    let a = c.args in
    let ns = nodes_of a.nodes.now in
    sym (on_below ns (gives_name_lem ns a.x) 0 c.loop-j.j c.loop-j-test.true
    (sym c.gives_name.ensures ∙ c.if-gives_name.false)) ∙ c.loop-j.invariant

pub returns : goal.returns
unfolding some_below
returns c =
    let z : c.loop-j.j ≡ 0 = omega arith in
    rw z at c.loop-j.invariant
