use Rattle.desk_positions.proofs.CellLaws.{adds-long}
use Rattle.desk_positions.proofs.MoveLaws.{fine-at, replace-row}
use Rattle.desk_positions.proofs.GrowthLaws.{two-beyond, two-grown}
use mathlib.Core.Path.{refl, ◌∙◌}
use Rattle.desk_positions.proofs.silent.either.Goals as goal

-- src/lib.rt:272:9
pub returns-then-m-gt-MOST_POSITIONS : goal.returns-then-m-gt-MOST_POSITIONS
returns-then-m-gt-MOST_POSITIONS c = record {
  by_index = (λ k l rest ls top w ha hb.
      let a = c.args in
      two-beyond w _ _ _ refl (fine-at a.top.row.cells a.top.below k l rest top a.a ha)
      (c.replace.ensures ∙ replace-row a.top.row.cells a.top.below k l rest top a.a) c.add-m.ensures c.if-m-gt-MOST_POSITIONS.true);
  t_len_unchanged = adds-long c.add-m.ensures ∙ c.requires.t_len;
}

-- src/lib.rt:261:1
pub returns : goal.returns
returns c = record {
  by_index = (λ k l rest ls top w ha hb.
      let a = c.args in
      two-grown w _ _ _ refl (fine-at a.top.row.cells a.top.below k l rest top a.a ha) (fine-at a.top.row.cells a.top.below k l rest top a.b hb)
      (c.replace.ensures ∙ replace-row a.top.row.cells a.top.below k l rest top a.a)
      c.add-m.ensures c.if-m-gt-MOST_POSITIONS.false
      (c.replace-2.ensures ∙ replace-row a.top.row.cells a.top.below k l rest top a.b) c.add.ensures);
  t_len_unchanged = adds-long c.add.ensures ∙ adds-long c.add-m.ensures ∙ c.requires.t_len;
}
