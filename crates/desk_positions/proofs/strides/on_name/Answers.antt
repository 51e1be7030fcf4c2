use Rattle.desk_positions.proofs.CellLaws.{adds-kept, kept-none}
use Rattle.desk_positions.proofs.GrowthLaws.{none-grown, one-grown}
use Rattle.desk_positions.proofs.MoveLaws.{below, pop-row}
use Rattle.desk_positions.proofs.StrideLaws.{name-action, name-zero, name-other, name-taken, name-read}
use mathlib.Core.Path.{sym, ◌∙◌}
use Rattle.desk_positions.proofs.strides.on_name.Goals as goal

-- src/lib.rt:394:9
pub returns-then-a-action : goal.returns-then-a-action
returns-then-a-action c = record {
  by_index = λ k l rest ls top w ok.
      let a = c.args in
      none-grown w _ (name-action a.a a.name l rest a.action a.res c.if-a-action.true);
  rows_kept = kept-none _ _;
}

-- src/lib.rt:397:9
pub returns-then-res-eq0 : goal.returns-then-res-eq0
returns-then-res-eq0 c = record {
  by_index = λ k l rest ls top w ok.
      let a = c.args in
      none-grown w _ (name-zero a.a a.name l rest a.action a.res c.if-res-eq0.true);
  rows_kept = kept-none _ _;
}

-- src/lib.rt:405:9
pub returns-then-top-i : goal.returns-then-top-i
returns-then-top-i c = record {
  by_index = λ k l rest ls top w ok.
      let a = c.args in
      none-grown w _ (name-other a.a a.name l rest a.action a.res (λ e. c.if-top-i.true (name-read a.top.row.cells a.top.below k l rest top a.name ok ∙ e)));
  rows_kept = kept-none _ _;
}

-- src/lib.rt:384:1
pub returns : goal.returns
returns c = record {
  by_index = λ k l rest ls top w ok.
      let a = c.args in
      one-grown w _ _ (name-taken a.a a.name l rest a.action a.res c.if-a-action.false
      (sym (name-read a.top.row.cells a.top.below k l rest top a.name ok) ∙ c.if-top-i.false) c.if-res-eq0.false) (below a.top.row.cells a.top.below k l rest top)
      (c.pop.ensures ∙ pop-row a.top.row.cells a.top.below k l rest top) c.add.ensures;
  rows_kept = adds-kept c.add.ensures;
}
