use borrow.Author.Tests.{not-true, not-false}
use Rattle.sheet_rules.proofs.NodeLaws.{between-two}
use mathlib.Core.Path.{refl}
use Rattle.sheet_rules.proofs.tree.children_between.Goals as goal

pub returns-then-not-lies_between : goal.returns-then-not-lies_between
returns-then-not-lies_between c =
    let a = c.args in
    let f = c.child_fields-f in
    rw (
      f.ensures a.a a.b,
      between-two a.k a.n f.result.a f.result.b a.a a.b,
      ← c.lies_between.ensures,
      not-true c.lies_between.result c.if-not-lies_between.true-raw,
    ) refl

pub returns : goal.returns
returns c =
    let a = c.args in
    let f = c.child_fields-f in
    rw (
      f.ensures a.a a.b,
      between-two a.k a.n f.result.a f.result.b a.a a.b,
      ← c.lies_between.ensures,
      not-false c.lies_between.result c.if-not-lies_between.false-raw,
    )
    c.lies_between-2.ensures
