use Prim.Native.Nat.{ℕ, ◌*◌}
use mathlib.Core.Path.{ap, ◌∙◌}
use mathlib.Core.List.{List}
use Rattle.monitor_sets.specs.Instances.{instances}
use Rattle.monitor_pairs.specs.Code.{row_put}
use Rattle.monitor_pairs.proofs.RetireLaws.{row_copied_lem}
use Rattle.monitor_pairs.proofs.places.copy_row.Goals as goal

pub returns : goal.returns
returns c =
    let a = c.args in
    let l = a.sets.now in c.put_row.ensures ∙ ap (λ (u : List ℕ). row_put (a.to * instances) u instances l) c.row_of-row.ensures ∙ row_copied_lem a.from a.to l
