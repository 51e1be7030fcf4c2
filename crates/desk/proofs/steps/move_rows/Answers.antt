use Prim.Native.Nat.{◌*◌}
use mathlib.Core.Path.{subst}
use mathlib.Core.List.{List}
use Rattle.usage.specs.Valid.{OutlineOk}
use Rattle.usage.specs.Tables.{nodes_of}
use Rattle.desk_positions.specs.Positions.{next_positions}
use Rattle.desk_positions.specs.Growth.{Tabled, Settles, step_from}
use Rattle.desk.proofs.StateLaws.{nodes-got}
use Rattle.desk.proofs.OutlineLaws.{table-lent, table-long, table-back, within-back, rows_settled}
use native.Mathlib.Omega.{arith}
use mathlib.Core.Path.{sym, ap, ◌∙◌}
use Prim.Native.Nat.{ℕ, ◌-◌}
use lib.ListN.{length}
use Rattle.desk.proofs.steps.move_rows.Goals as goal

-- src/steps.rt:125:1
pub returns : goal.returns
returns c =
    let a = c.args in
    let p = c.requires in
    let x = c.next-k in
    let n = nodes-got a.b.now a.h _ (3 * a.h.nodes - 0) p.nodes_le_most_nodes c.bytes_at-nodes.ensures (omega arith) in
    let t = table-lent a.b.now p.desk_bytes_in_bounds in
    let l = x.auto.t ∙ ap length t ∙ table-long a.b.now in record {
      settled_in = λ ls ok w. rows_settled _ x.new.t _ _ (table-back a.b.now x.new.t p.desk_bytes_in_bounds l) x.ensures.upper_bound
          (subst (λ (ns : List ℕ). Settles (next_positions (nodes_of ns) (step_from a.step.kind a.step.a a.step.b) ls) x.result x.new.t) n
          (x.ensures.settles ls (subst (λ (ns : List ℕ). OutlineOk (nodes_of ns)) (sym n) ok) (ap length t ∙ table-long a.b.now)
          (subst (λ (y : List ℕ). Tabled ls a.h.positions y) (sym t) w)));
      within = within-back a.b.now x.new.t p.desk_bytes_in_bounds l;
    }
