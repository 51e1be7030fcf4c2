use Prim.Native.Nat.{ℕ, ◌-◌, ◌*◌}
use mathlib.Core.Path.{ap, ap₂, ◌∙◌}
use mathlib.Core.List.{List}
use native.Mathlib.Omega.{arith}
use Rattle.monitor_sets.specs.Instances.{instances, unseen, retirees}
use Rattle.monitor_pairs.specs.Pairs.{row_copied}
use Rattle.monitor_pairs.specs.Code.{pair_row, row_put, row_joined, moved_up}
use Rattle.monitor_pairs.proofs.RetireLaws.{retired-both}
use Rattle.monitor_pairs.proofs.retiring.retire.Goals as goal

pub returns : goal.returns
returns c =
    let a = c.args in
    let l = a.sets.now in
    let cols = c.retire_columns.ensures in
    let row = c.join_row.ensures
    ∙ ap₂ (λ (u v : List ℕ). row_joined (a.at * instances) u v) cols (c.row_of-row.ensures ∙ ap (pair_row (retirees * instances)) cols) in
    let put = c.put_row.ensures ∙ ap₂ (λ (u v : List ℕ). row_put (retirees * instances) u instances v) row cols in
    let rows = c.move_up.ensures ∙ ap (moved_up (a.at * instances) ((a.n - 1 - a.at) * instances) instances) put in c.copy_row.ensures ∙ ap (row_copied unseen (a.n - 1)) rows
    ∙ retired-both a.at a.n l (omega arith) (omega arith) (omega arith)
