use mathlib.Core.Path.{ap, ◌∙◌}
use Prim.Native.Nat.{ℕ}
use mathlib.Core.List.{List}
use native.Mathlib.Omega.{arith}
use borrow.Author.Tests.{lt-ltb, le-ltb}
use Rattle.monitor_sets.specs.Instances.{first_created_lem}
use Rattle.monitor_sets.specs.Created.{place_from, place_in}
use Rattle.monitor_sets.proofs.CreatedLaws.{take-most}
use Rattle.monitor_sets.proofs.created.place_of.Goals as goal

pub returns-then-x-lt-STATICS : goal.returns-then-x-lt-STATICS
unfolding place_in
returns-then-x-lt-STATICS c = simp (lt-ltb _ _ c.if-x-lt-STATICS.true)

pub returns : goal.returns
unfolding place_in
returns c =
    let a = c.args in
    simp (le-ltb _ _ c.if-x-lt-STATICS.false)
    (c.place.ensures
    ∙ ap (λ (l : List ℕ). place_from a.x first_created_lem l)
    (take-most a.created.now a.count c.min.result c.told-created (omega (arith, c.min.ensures))))
