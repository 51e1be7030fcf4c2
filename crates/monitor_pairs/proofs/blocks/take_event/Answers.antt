use Prim.Native.Nat.{ℕ}
use mathlib.Core.List.{List, ◌++◌}
use mathlib.Core.Path.{ap, ap₂, ◌∙◌}
use borrow.Author.Tests.{le-leb, lt-ltb}
use Rattle.monitor_pairs.specs.Blocks.{of_policy}
use Rattle.monitor_pairs.specs.Code.{turned, turned_blocks}
use Rattle.monitor_pairs.proofs.BlockLaws.{both-same, two-blocks, no-blocks}
use Rattle.monitor_pairs.proofs.blocks.take_event.Goals as goal

pub returns-in_default-as_mut_array : goal.returns-in_default-as_mut_array
returns-in_default-as_mut_array c =
    let (low, high, size) = c.in-Some.ensures.cases in
    rw (no-blocks _ _ _ low high size c.in_default-as_mut_array.ensures.cases) (both-same _ _ _ low high size)

pub returns : goal.returns
unfolding turned_blocks
returns c =
    let a = c.args in
    let (low, high, size) = c.in-Some.ensures.cases in
    let whole = c.in-Some-as_mut_array.ensures.cases in
    rw (two-blocks _ _ _ low high size whole.long, le-leb _ _ c.if-turn-gt-INSTANCES.false, lt-ltb _ _ c.if-turn.false)
    (ap₂ (λ (u v : List ℕ). u ++ v) (c.take.ensures ∙ ap (of_policy a.which.first (λ p. turned a.turn a.lower)) low)
    (c.take-2.ensures ∙ ap (of_policy a.which.second (λ p. turned a.turn a.upper)) (whole.same ∙ high)))
