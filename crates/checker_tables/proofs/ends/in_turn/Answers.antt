use mathlib.Core.Path.{sym, ◌∙◌}
use Rattle.checker_tables.proofs.RuleLaws.{turn-unmade, turn-made}
use Rattle.checker_tables.proofs.ends.in_turn.Goals as goal

pub returns-then-meaning-eq0 : goal.returns-then-meaning-eq0
returns-then-meaning-eq0 c =
    let a = c.args in
    let v = c.held-v in
    let high = c.upper_each-high in
    let same = c.union_each-same in
    let made = c.union_each-made in
    turn-unmade a.t.now a.a a.b a.f a.e v.result high.result c.join_each.result v.ensures high.ensures
    same.result made.result (sym c.meaning.ensures ∙ c.if-meaning-eq0.true) same.ensures made.ensures c.join_each.ensures

pub returns : goal.returns
returns c =
    let a = c.args in
    let v = c.held-v in
    let high = c.upper_each-high in
    let both = c.join_each-both in
    turn-made a.t.now a.a a.b a.f a.e v.result high.result c.union_each.result v.ensures high.ensures
    both.result (λ z. c.if-meaning-eq0.false (c.meaning.ensures ∙ z)) both.ensures c.union_each.ensures
