use mathlib.Core.List.{List, ◌++◌}
use mathlib.Core.Path.{ap, ap₂, ◌∙◌}
use borrow.Author.Tests.{le-leb, lt-ltb}
use Prim.Native.Nat.{ℕ}
use Rattle.monitor_pairs.specs.Pairs.{retire_pairs}
use Rattle.monitor_pairs.specs.Blocks.{of_policy, each_block}
use Rattle.monitor_pairs.proofs.BlockLaws.{both-same, two-blocks, no-blocks}
use Rattle.monitor_pairs.proofs.blocks.retire.Goals as goal

pub returns-in_default-as_mut_array : goal.returns-in_default-as_mut_array
returns-in_default-as_mut_array c =
    let (low, high, size) = c.in-Some.ensures.cases in
    rw (no-blocks _ _ _ low high size c.in_default-as_mut_array.ensures.cases) (both-same _ _ _ low high size)

pub returns : goal.returns
unfolding each_block
returns c =
    let a = c.args in
    let (low, high, size) = c.in-Some.ensures.cases in
    let whole = c.in-Some-as_mut_array.ensures.cases in
    let f : ℕ → List ℕ → List ℕ = λ p. retire_pairs a.at a.n in
    rw (two-blocks _ _ _ low high size whole.long, le-leb _ _ c.if-n-gt-INSTANCES.false, lt-ltb _ _ c.if-n-at.false, le-leb _ _ c.if-at-lt-FIRST_CREATED.false)
    (ap₂ (λ (u v : List ℕ). u ++ v) (c.retire_policy.ensures ∙ ap (of_policy a.which.first f) low)
    (c.retire_policy-2.ensures ∙ ap (of_policy a.which.second f) (whole.same ∙ high)))
