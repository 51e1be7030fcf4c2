use Rattle.checker_lengths.proofs.EntryLaws.{bounds, linear-lt, held_out, held-less, held_more}
use Rattle.usage.proofs.Logic.{not-true, not-false}
use native.Mathlib.Omega.{arith}
use mathlib.Core.Path.{sym, ◌∙◌}
use Rattle.checker_lengths.proofs.entries.get.Goals as goal

pub returns-then-not-inside : goal.returns-then-not-inside
returns-then-not-inside c = held_out _ _ _ (sym c.inside.ensures ∙ not-true _ c.if-not-inside.true-raw)

pub place-requires : goal.place-requires
place-requires c = bounds c.args.e (sym c.inside.ensures ∙ not-false _ c.if-not-inside.false-raw)

pub bounds-t-place : goal.bounds-t-place
bounds-t-place c = let h = linear-lt c.args.e
    (sym c.inside.ensures ∙ not-false _ c.if-not-inside.false-raw) in omega (arith, c.place.ensures)

pub returns-then-v-most : goal.returns-then-v-most
returns-then-v-most c = held-less _ _ _ _ (sym c.inside.ensures
    ∙ not-false _ c.if-not-inside.false-raw) c.place.ensures c.if-v-most.true

pub returns-else-v-most : goal.returns-else-v-most
returns-else-v-most c = held_more _ _ _ _ (sym c.inside.ensures
    ∙ not-false _ c.if-not-inside.false-raw) c.place.ensures c.if-v-most.false
