use Prim.Native.Nat.{ℕ, ◌*◌}
use mathlib.Core.Path.{ap, ap₂, ◌∙◌}
use mathlib.Core.List.{List}
use lib.ListN.{set}
use Rattle.monitor_sets.specs.Instances.{instances}
use Rattle.monitor_pairs.specs.Code.{line_moved, row_put, column_put}
use Rattle.monitor_pairs.proofs.EventLaws.{event-made}
use Rattle.monitor_pairs.proofs.events.move_rows.Goals as goal

pub returns : goal.returns
returns c =
    let a = c.args in
    let l = a.sets.now in
    let k : ℕ = a.at * instances in
    let row = c.move_line-row.ensures ∙ ap (line_moved a.ways.first) c.row_of.ensures in
    let line = c.move_line-column.ensures ∙ ap (line_moved a.ways.second) c.column_of.ensures in
    let own = c.move_by_rows-own.ensures in c.put_column.ensures
    ∙ ap₂ (λ (u v : List ℕ). column_put a.at u a.n v) (ap₂ (λ (u : List ℕ) (v : ℕ). set u a.at v) line own)
    (c.put_row.ensures
    ∙ ap₂ (λ (u v : List ℕ). row_put k u instances v) row c.move_run.ensures)
    ∙ event-made a.ways a.at a.n l c.requires.n_le_instances c.requires.at_lt_n
