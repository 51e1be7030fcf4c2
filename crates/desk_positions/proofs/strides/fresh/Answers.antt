use mathlib.Core.List.{List}
use Rattle.desk_positions.specs.Rows.{base}
use Rattle.desk_positions.proofs.CellLaws.{adds-kept, kept-none}
use Rattle.desk_positions.proofs.GrowthLaws.{none-grown, one-grown}
use Rattle.desk_positions.proofs.StrideLaws.{fresh-action, fresh-static, fresh-taken, fresh-row, fine-fresh}
use mathlib.Core.Path.{ap, ◌∙◌}
use Prim.Native.Nat.{ℕ, ◌+◌}
use lib.ListN.{set}
use Rattle.desk_positions.proofs.strides.fresh.Goals as goal

-- src/lib.rt:421:9
pub returns-then-action-ne-CREATE : goal.returns-then-action-ne-CREATE
returns-then-action-ne-CREATE c = record {
  by_index = λ k l rest ls top w ok oks.
      let a = c.args in
      none-grown w _ (fresh-action a.name a.body l rest a.action a.res c.if-action-ne-CREATE.true);
  rows_kept = kept-none _ _;
}

-- src/lib.rt:424:9
pub returns-then-res-lt-STATICS : goal.returns-then-res-lt-STATICS
returns-then-res-lt-STATICS c = record {
  by_index = λ k l rest ls top w ok oks.
      let a = c.args in
      none-grown w _ (fresh-static a.name a.body l rest a.action a.res c.if-res-lt-STATICS.true);
  rows_kept = kept-none _ _;
}

-- src/lib.rt:411:1
pub returns : goal.returns
returns c = record {
  by_index = λ k l rest ls top w ok oks.
      let a = c.args in
      one-grown w _ _ (fresh-taken a.name a.body l rest a.action a.res c.if-action-ne-CREATE.false c.if-res-lt-STATICS.false)
      (fine-fresh a.top.row.cells a.top.below k l rest top a.body a.name a.res oks)
      (c.rename.ensures ∙ ap (λ (x : List ℕ). set x (base a.top.below + (a.name + 1)) a.res) c.replace.ensures
      ∙ fresh-row a.top.row.cells a.top.below k l rest top a.body a.name a.res ok) c.add.ensures;
  rows_kept = adds-kept c.add.ensures;
}
