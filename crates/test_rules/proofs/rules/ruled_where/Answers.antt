use Rattle.std.proofs.Common.{arith}
use Rattle.usage.specs.Tables.{nodes_of}
use Rattle.usage.proofs.TableLaws.{nodes-length}
use Rattle.sheet_rules.proofs.FaultLaws.{ruled-failing}
use Rattle.std.specs.Prelude.{Some, None}
use borrow.Author.Tests.{not-true}
use mathlib.Core.Path.{sym, ◌∙◌}
use Rattle.test_rules.proofs.rules.ruled_where.Goals as goal

pub returns-then-not-passes : goal.returns-then-not-passes
returns-then-not-passes g c =
    let ns = nodes_of c.args.table.now in
    let t = c.loop-k in
    let h = c.loop-k-test.true in
    let told = c.requires.1.1 t.k c.passes.result h c.passes.ensures in
    c.ruled_failing.ensures ∙ ruled-failing g.test ns (Some t.k) (record {
      from-k = omega arith;
      before = omega (arith, nodes-length c.args.table.now);
      failing = sym told ∙ not-true c.passes.result c.if-not-passes.true-raw;
      passing = λ j l m. t.invariant j m;
    })

pub returns : goal.returns
returns g c =
    let ns = nodes_of c.args.table.now in
    let t = c.loop-k in
    let h = c.loop-k-test.false in
    c.ruled_failing-2.ensures ∙ ruled-failing g.test ns None (λ j m. t.invariant j (omega (arith, nodes-length c.args.table.now)))
