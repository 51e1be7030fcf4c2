use mathlib.Core.Path.{refl, ap, ◌∙◌}
use borrow.Author.Tests.{eq-eqb, ne_eqb, le-leb, lt-ltb}
use Prim.Native.Nat.{ℕ}
use mathlib.Core.List.{List}
use Rattle.monitor_sets.specs.Code.{broken_in}
use Rattle.monitor_sets.proofs.instances.take_event.Goals as goal

pub returns-then-bad-ne0 : goal.returns-then-bad-ne0
returns-then-bad-ne0 c =
    let bad = c.broken_set-bad in
    rw (le-leb _ _ c.if-turn-gt-INSTANCES.false, lt-ltb _ _ c.if-turn.false, ne_eqb bad.result 0 c.if-bad-ne0.true)
    (record { value = bad.ensures ∙ ap (λ (l : List ℕ). broken_in c.args.looked l c.args.unclosed.now) c.move_sets-after.ensures.value; sets_after = refl; possible_after = refl })

pub returns : goal.returns
returns c =
    let bad = c.broken_set-bad in
    let moved = c.move_sets-after.ensures in
    rw (le-leb _ _ c.if-turn-gt-INSTANCES.false, lt-ltb _ _ c.if-turn.false, eq-eqb bad.result 0 c.if-bad-ne0.false)
    (record { value = bad.ensures ∙ ap (λ (l : List ℕ). broken_in c.args.looked l c.args.unclosed.now) moved.value; sets_after = moved.sets_after; possible_after = moved.value })
