use Rattle.usage.specs.Tables.{nodes_of}
use Rattle.desk_positions.proofs.SettleLaws.{here, under-start, settled, under_next, under-beyond}
use native.Mathlib.Omega.{arith}
use mathlib.Core.Path.{◌∙◌}
use borrow.Author.Rules.{rules}
use Rattle.desk_positions.proofs.silent.spread.Goals as goal

-- src/lib.rt:351:5
pub loop-i-init : goal.loop-i-init
loop-i-init c = (
  search rules,
  (
    search rules,
    (
      search rules,
      λ ls ok w. under-start (nodes_of c.args.nodes.now) ls c.args.n
          c.args.t.now w,
    ),
  ),
)

-- src/lib.rt:355:13
pub returns-then-m-gt-MOST_POSITIONS : goal.returns-then-m-gt-MOST_POSITIONS
returns-then-m-gt-MOST_POSITIONS c = record {
  settles = λ ls ok w.
      let a = c.args in
      let t = c.loop-i in
      let h = c.loop-i-test.true in
      let ns = nodes_of a.nodes.now in
      let u = t.invariant.1.1.1 ls ok w in
      let x = here u.table t.i h in
      let g = c.silent-m.ensures.grown x.position u.list ok x.fine (c.load-r.ensures ∙ x.row) u.table in
      under-beyond ns ls t.i t.m t.t u h g c.if-m-gt-MOST_POSITIONS.true;
  rows_counted = (c.silent-m.ensures.t_len_unchanged, omega arith);
}

-- src/lib.rt:351:5
pub loop-i-preserved : goal.loop-i-preserved
loop-i-preserved c =
    let a = c.args in
    let t = c.loop-i in
    let h = c.loop-i-test.true in
    let ns = nodes_of a.nodes.now in (
      omega arith,
      (
        c.if-m-gt-MOST_POSITIONS.false,
        (
          c.silent-m.ensures.t_len_unchanged,
          λ ls ok w.
              let u = t.invariant.1.1.1 ls ok w in
              let x = here u.table t.i h in
              let g = c.silent-m.ensures.grown x.position u.list ok x.fine (c.load-r.ensures ∙ x.row) u.table in
              under_next ns ls t.i t.m t.t u h g c.if-m-gt-MOST_POSITIONS.false,
        ),
      ),
    )

-- src/lib.rt:341:1
pub returns : goal.returns
returns c =
    let t = c.loop-i in record {
      settles = λ ls ok w. settled (nodes_of c.args.nodes.now) ls t.i t.m t.t (t.invariant.1.1.1 ls ok w) t.invariant.0
          c.loop-i-test.false;
      rows_counted = (t.invariant.1.1.0, (let k = t.invariant.1.0 in omega arith));
    }
