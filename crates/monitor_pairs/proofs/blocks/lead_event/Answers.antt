use Prim.Native.Nat.{ℕ}
use mathlib.Core.List.{List, ◌++◌}
use mathlib.Core.Path.{ap, ap₂, ◌∙◌}
use borrow.Author.Tests.{le-leb, lt-ltb}
use lib.ListN.{set}
use Rattle.monitor_pairs.specs.Pairs.{gather_pairs}
use Rattle.monitor_pairs.specs.Code.{turned, led_blocks}
use Rattle.monitor_pairs.proofs.BlockLaws.{both-same, two-blocks, no-blocks}
use Rattle.monitor_pairs.proofs.blocks.lead_event.Goals as goal

pub returns-in_default-as_mut_array : goal.returns-in_default-as_mut_array
returns-in_default-as_mut_array c =
    let (low, high, size) = c.in-Some.ensures.cases in
    record {
      pairs_unchanged = both-same _ _ _ low high size;
      value = rw (no-blocks _ _ _ low high size c.in_default-as_mut_array.ensures.cases);
    }

pub returns : goal.returns
unfolding led_blocks
returns c =
    let a = c.args in
    let (low, high, size) = c.in-Some.ensures.cases in
    let whole = c.in-Some-as_mut_array.ensures.cases in
    let one = c.lead_policy-led.ensures in
    let two = c.lead_policy.ensures in record {
      pairs_unchanged = ap₂ (λ (u v : List ℕ). u ++ v) one.sets_unchanged (two.sets_unchanged ∙ whole.same) ∙ both-same _ _ _ low high size;
      value = rw (two-blocks _ _ _ low high size whole.long, le-leb _ _ c.if-turn-gt-INSTANCES.false, lt-ltb _ _ c.if-turn.false)
          (two.value ∙ ap₂ (λ (u v : List ℕ). set u a.which.second (gather_pairs a.turn.n (turned a.turn a.upper v)))
          (one.value ∙ ap (λ (u : List ℕ). set a.after a.which.first (gather_pairs a.turn.n (turned a.turn a.lower u))) low)
          (whole.same ∙ high));
    }
