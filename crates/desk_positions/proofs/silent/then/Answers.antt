use Rattle.desk_positions.proofs.CellLaws.{adds-long}
use Rattle.desk_positions.specs.Rows.{base}
use Rattle.desk_positions.proofs.MoveLaws.{fine-two}
use Rattle.desk_positions.proofs.MoveLaws.{then-row}
use Rattle.desk_positions.proofs.GrowthLaws.{one-grown, long-grown}
use native.Mathlib.Omega.{arith}
use mathlib.Core.Path.{refl, ◌∙◌}
use Rattle.desk_positions.proofs.silent.then.Goals as goal

-- src/lib.rt:248:9
pub returns-then-d-ge-MOST_PARTS : goal.returns-then-d-ge-MOST_PARTS
returns-then-d-ge-MOST_PARTS c = record {
  by_index = (λ k l rest ls top w ha hb.
      let a = c.args in
      let z = top.depth in
      long-grown w _ _ refl (omega arith));
  t_len_unchanged = c.requires.t_len;
}

-- src/lib.rt:238:1
pub returns : goal.returns
returns c = record {
  by_index = (λ k l rest ls top w ha hb.
      let a = c.args in
      one-grown w _ _ refl (fine-two a.top.row.cells a.top.below k l rest top a.a a.b ha hb (omega arith))
      (c.push-u.ensures
      ∙ rw c.replace-s.ensures (then-row a.top.row.cells a.top.below k l rest top a.a a.b (base a.top.below) refl))
      c.add.ensures);
  t_len_unchanged = adds-long c.add.ensures ∙ c.requires.t_len;
}
