use mathlib.Core.Path.{sym, ◌∙◌}
use Rattle.checker_tables.proofs.RuleLaws.{sequence-late, sequence-else}
use Rattle.checker_tables.proofs.ends.sequence_ends.Goals as goal

pub returns-then-is_late : goal.returns-then-is_late
returns-then-is_late c =
    let a = c.args in
    let later = c.in_turn-later in
    let earlier = c.in_turn-earlier in
    sequence-late a.t.now a.a a.b a.e c.join_each.result c.in_group-waiting.result c.in_group-created.result later.result
    earlier.result (sym c.is_late.ensures ∙ c.if-is_late.true) c.in_group-waiting.ensures c.in_group-created.ensures later.ensures earlier.ensures
    c.join_each.ensures

pub returns : goal.returns
returns c =
    let a = c.args in
    sequence-else a.t.now a.a a.b a.e c.in_turn.result (sym c.is_late.ensures ∙ c.if-is_late.false) c.in_turn.ensures
