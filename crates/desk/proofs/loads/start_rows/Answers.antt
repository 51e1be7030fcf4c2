use Rattle.desk.proofs.OutlineLaws.{table-lent, table-long, table-back, within-back, rows_settled}
use mathlib.Core.Path.{ap, ◌∙◌}
use lib.ListN.{length}
use Rattle.desk.proofs.loads.start_rows.Goals as goal

-- src/loads.rt:184:1
pub returns : goal.returns
returns c =
    let a = c.args in
    let p = c.requires in
    let x = c.start-k in
    let t = table-lent a.b.now (p) in
    let l = x.auto.t ∙ ap length t ∙ table-long a.b.now in
    let w = within-back a.b.now x.new.t p l in record {
      settled_in = λ ok. rows_settled _ x.new.t _ _ (table-back a.b.now x.new.t p l) x.ensures.upper_bound
          (x.ensures.settles ok (ap length t ∙ table-long a.b.now));
      within = w;
      b_len_unchanged = w.long;
    }
