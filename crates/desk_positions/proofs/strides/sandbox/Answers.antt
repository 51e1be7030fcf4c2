use Rattle.desk_positions.proofs.CellLaws.{adds-kept, kept-none, kept-beyond}
use Rattle.desk_positions.proofs.GrowthLaws.{none-grown, one-grown, long-grown}
use Rattle.desk_positions.proofs.StrideLaws.{sandbox-other, sandbox-taken, sandbox-row, fine-sandbox}
use native.Mathlib.Omega.{arith}
use mathlib.Core.Path.{◌∙◌}
use Rattle.desk_positions.proofs.strides.sandbox.Goals as goal

-- src/lib.rt:455:9
pub returns-then-policy-p : goal.returns-then-policy-p
returns-then-policy-p c = record {
  by_index = λ k l rest ls top w ok.
      let a = c.args in
      none-grown w _ (sandbox-other a.policy a.body l rest a.p c.if-policy-p.true);
  rows_kept = kept-none _ _;
}

-- src/lib.rt:458:9
pub returns-then-d-ge-MOST_PARTS : goal.returns-then-d-ge-MOST_PARTS
returns-then-d-ge-MOST_PARTS c = record {
  by_index = λ k l rest ls top w ok.
      let a = c.args in
      let z = top.depth in
      long-grown w _ _ (sandbox-taken a.policy a.body l rest a.p c.if-policy-p.false) (omega (arith, c.if-d-ge-MOST_PARTS.true, z));
  rows_kept = kept-beyond _ _;
}

-- src/lib.rt:445:1
pub returns : goal.returns
returns c = record {
  by_index = λ k l rest ls top w ok.
      let a = c.args in
      one-grown w _ _ (sandbox-taken a.policy a.body l rest a.p c.if-policy-p.false)
      (fine-sandbox a.top.row.cells a.top.below k l rest top a.body a.policy ok (omega (arith, c.if-d-ge-MOST_PARTS.false)))
      (c.push.ensures ∙ rw (c.push-s.ensures, c.pop.ensures)
      (sandbox-row a.top.row.cells a.top.below k l rest top a.body a.policy)) c.add.ensures;
  rows_kept = adds-kept c.add.ensures;
}
