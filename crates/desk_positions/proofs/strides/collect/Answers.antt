use Rattle.usage.specs.Tables.{nodes_of}
use Rattle.usage.proofs.Logic.{by_cases}
use Rattle.desk_positions.specs.Moves.{step_of}
use Rattle.desk_positions.proofs.SettleLaws.{here}
use Rattle.desk_positions.proofs.NextLaws.{led, led-none, led-next, led-beyond, led-all}
use native.Mathlib.Omega.{arith}
use mathlib.Core.Path.{refl, ◌∙◌}
use Prim.Native.Nat.{◌+◌, ◌≤◌}
use borrow.Author.Rules.{rules}
use Rattle.desk_positions.proofs.strides.collect.Goals as goal

-- src/lib.rt:599:5
pub loop-i-init : goal.loop-i-init
loop-i-init c =
    let a = c.args in (
      search rules,
      (
        search rules,
        (
          search rules,
          (λ k h. refl, λ ls ok w. led-none (nodes_of a.nodes.now) (step_of a.step) ls a.t.now),
        ),
      ),
    )

-- src/lib.rt:603:13
pub returns-then-m-gt-MOST_POSITIONS : goal.returns-then-m-gt-MOST_POSITIONS
returns-then-m-gt-MOST_POSITIONS c =
    let a = c.args in
    let t = c.loop-i in
    let h = c.loop-i-test.true in
    let s = c.stride-m in
    let l = c.load-r in record {
      grown = λ ls ok w.
          let ns = nodes_of a.nodes.now in
          let step = step_of a.step in
          let x = here w t.i h in
          let g = s.ensures.grown x.position (led ns step ls t.i) ok x.fine (l.ensures ∙ t.invariant.1.1.1.0 t.i (omega arith) ∙ x.row)
          (t.invariant.1.1.1.1 ls ok w) in
          led-beyond ns step ls a.n a.t.now w t.i h g c.if-m-gt-MOST_POSITIONS.true;
      rows_counted = (search rules, omega arith);
    }

-- src/lib.rt:599:5
pub loop-i-preserved : goal.loop-i-preserved
loop-i-preserved c =
    let a = c.args in
    let t = c.loop-i in
    let h = c.loop-i-test.true in
    let s = c.stride-m in
    let l = c.load-r in
    let f : s.result ≤ t.m + 1 = by_cases s.ensures.rows_kept.few (λ k. k) (λ k. absurd (let q = c.if-m-gt-MOST_POSITIONS.false in omega arith)) in (
      omega arith,
      (
        (let q = t.invariant.1.0 in omega arith),
        (
          search rules,
          (
            λ k q. s.ensures.rows_kept.behind k (let z = t.invariant.1.0 in omega arith) ∙ t.invariant.1.1.1.0 k (omega arith),
            λ ls ok w.
                let ns = nodes_of a.nodes.now in
                let step = step_of a.step in
                let x = here w t.i h in
                let g = s.ensures.grown x.position (led ns step ls t.i) ok x.fine
                (l.ensures ∙ t.invariant.1.1.1.0 t.i (omega arith) ∙ x.row) (t.invariant.1.1.1.1 ls ok w) in
                led-next ns step ls a.n a.t.now w t.i h g c.if-m-gt-MOST_POSITIONS.false,
          ),
        ),
      ),
    )

-- src/lib.rt:590:1
pub returns : goal.returns
returns c =
    let a = c.args in
    let p = c.requires in
    let t = c.loop-i in record {
      grown = λ ls ok w. led-all (nodes_of a.nodes.now) (step_of a.step) ls a.n a.t.now w t.i c.loop-i-test.false
          (t.invariant.1.1.1.1 ls ok w);
      rows_counted = (t.invariant.1.1.0, (let j = t.invariant.0 in let k = t.invariant.1.0 in let q = p.n_le_most_positions in omega arith));
    }
