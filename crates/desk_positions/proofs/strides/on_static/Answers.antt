use Rattle.desk_positions.proofs.CellLaws.{adds-kept, kept-none}
use Rattle.desk_positions.proofs.GrowthLaws.{none-grown, one-grown}
use Rattle.desk_positions.proofs.MoveLaws.{below, pop-row}
use Rattle.desk_positions.proofs.StrideLaws.{static-action, static-resource, static-taken}
use mathlib.Core.Path.{◌∙◌}
use Rattle.desk_positions.proofs.strides.on_static.Goals as goal

-- src/lib.rt:375:9
pub returns-then-a-action : goal.returns-then-a-action
returns-then-a-action c = record {
  by_index = λ k l rest ls top w.
      let a = c.args in
      none-grown w _ (static-action a.a a.s l rest a.action a.res c.if-a-action.true);
  rows_kept = kept-none _ _;
}

-- src/lib.rt:378:9
pub returns-then-s-res : goal.returns-then-s-res
returns-then-s-res c = record {
  by_index = λ k l rest ls top w.
      let a = c.args in
      none-grown w _ (static-resource a.a a.s l rest a.action a.res c.if-s-res.true);
  rows_kept = kept-none _ _;
}

-- src/lib.rt:365:1
pub returns : goal.returns
returns c = record {
  by_index = λ k l rest ls top w.
      let a = c.args in
      one-grown w _ _ (static-taken a.a a.s l rest a.action a.res c.if-a-action.false c.if-s-res.false) (below a.top.row.cells a.top.below k l rest top)
      (c.pop.ensures ∙ pop-row a.top.row.cells a.top.below k l rest top) c.add.ensures;
  rows_kept = adds-kept c.add.ensures;
}
