use mathlib.Core.Path.{subst}
use mathlib.Core.List.{List}
use Rattle.usage.specs.Valid.{OutlineOk}
use Rattle.usage.specs.Tables.{nodes_of}
use Rattle.desk_positions.specs.Positions.{stride_all, is_any}
use Rattle.desk_positions.specs.Growth.{Tabled, step_from}
use Rattle.desk.proofs.StateLaws.{nodes-lent}
use Rattle.desk.proofs.OutlineLaws.{table-lent, table-long}
use mathlib.Core.Path.{◌≡◌, sym, ap, ◌∙◌}
use Prim.Native.Nat.{ℕ}
use lib.ListN.{length}
use Rattle.desk.proofs.steps.stays.Goals as goal

-- src/steps.rt:101:1
pub returns : goal.returns
returns c =
    let a = c.args in
    let p = c.requires in
    let n = nodes-lent a.b.now a.h p.desk_bytes_in_bounds p.nodes_le_most_nodes in
    let t = table-lent a.b.now p.desk_bytes_in_bounds in record {
      at_retiring = λ k. absurd (c.if-step-eq-RETIRING.false k);
      at_others = λ d ls ok w. subst
          (λ (ns : List ℕ). c.leads.result ≡ is_any (stride_all (nodes_of ns) (step_from a.step.kind a.step.a a.step.b) ls)) n
          (c.leads.ensures.value ls (subst (λ (ns : List ℕ). OutlineOk (nodes_of ns)) (sym n) ok) (ap length t ∙ table-long a.b.now)
          (subst (λ (x : List ℕ). Tabled ls a.h.positions x) (sym t) w));
    }
