use Rattle.sheet_rules.proofs.NodeLaws.{times-two}
use mathlib.Core.Path.{refl}
use borrow.Author.Rules.{rules}
use Rattle.sheet_rules.proofs.tree.names_child.Goals as goal

pub returns : goal.returns
returns c =
    let a = c.args in
    let f = c.child_fields-f in record {
      value = rw (
        f.ensures a.a a.b,
        times-two a.c f.result.a f.result.b a.a a.b,
        ← c.names.ensures.value,
        ← c.names-2.ensures.value,
      ) refl;
      upper_bound = search rules;
    }
