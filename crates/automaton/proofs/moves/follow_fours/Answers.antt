use mathlib.Core.Bool.{true, false}
use mathlib.Core.Path.{◌∙◌}
use Rattle.automaton.proofs.RowLaws.{ends-none, ends-four}
use borrow.Author.Rules.{rules}
use Rattle.automaton.proofs.moves.follow_fours.Goals as goal

pub loop-i-init : goal.loop-i-init
loop-i-init c =
    let a = c.args in (
      search rules,
      (
        c.requires.own_value ∙ ends-none a.edges.now a.a a.seen.resource true a.seen.second,
        c.requires.other_value ∙ ends-none a.edges.now a.a a.seen.resource false a.seen.second,
      ),
    )

pub loop-i-preserved : goal.loop-i-preserved
loop-i-preserved c =
    let a = c.args in
    let t = c.loop-i in
    let first = c.follow_edge.ensures in
    let second = c.follow_edge-in-loop-i.ensures in
    let third = c.follow_edge-in-loop-i-2.ensures in
    let fourth = c.follow_edge-in-loop-i-3.ensures in (
      search rules,
      (
        ends-four a.edges.now a.a a.seen.resource true a.seen.second t.i _ _ _ _ _ t.invariant.1.0 first.own_after second.own_after third.own_after fourth.own_after,
        ends-four a.edges.now a.a a.seen.resource false a.seen.second t.i _ _ _ _ _ t.invariant.1.1 first.other_after second.other_after third.other_after fourth.other_after,
      ),
    )
