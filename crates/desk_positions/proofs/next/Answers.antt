use mathlib.Core.Path.{subst}
use mathlib.Core.List.{[]}
use Rattle.usage.specs.Tables.{nodes_of}
use Rattle.usage.proofs.Logic.{by_cases}
use Rattle.desk_positions.specs.Closure.{added_all}
use Rattle.desk_positions.specs.Positions.{most_positions, same_position, stride_all, next_positions}
use Rattle.desk_positions.specs.Growth.{Settles, step_from}
use Rattle.desk_positions.proofs.NextLaws.{next-settles, next-beyond, grown_tabled}
use native.Mathlib.Omega.{arith}
use mathlib.Core.Path.{◌≡◌}
use Prim.Native.Nat.{ℕ, suc}
use Rattle.desk_positions.proofs.next.Goals as goal

-- src/lib.rt:641:9
pub returns-then-m-gt-MOST_POSITIONS : goal.returns-then-m-gt-MOST_POSITIONS
returns-then-m-gt-MOST_POSITIONS c =
    let a = c.args in
    let s = c.collect-m in
    let ns = nodes_of a.nodes.now in
    let step = step_from a.kind a.a a.b in
    let e : suc most_positions ≡ s.result = let k = s.ensures.rows_counted.1 in let q = c.if-m-gt-MOST_POSITIONS.true in omega arith in record {
      settles = λ ls ok l w. subst (λ (m : ℕ). Settles (next_positions ns step ls) m s.new.t) e
          (next-beyond ns step ls (rw c.move_from.ensures at s.ensures.grown ls ok w) c.if-m-gt-MOST_POSITIONS.true);
      upper_bound = s.ensures.rows_counted.1;
      nothing_written = λ o. absurd (by_cases o (λ d. d c.if-t-ne-ROWS.false) (λ d. let k = c.if-n-gt-MOST_POSITIONS.false in omega arith));
    }

-- src/lib.rt:627:1
pub returns : goal.returns
returns c =
    let a = c.args in
    let s = c.collect-m in
    let p = c.spread in
    let ns = nodes_of a.nodes.now in
    let step = step_from a.kind a.a a.b in record {
      settles = λ ls ok l w. next-settles ns step ls p.result p.new.t
          (p.ensures.settles (added_all same_position [] (stride_all ns step ls)) ok
          (grown_tabled ns step (rw c.move_from.ensures at s.ensures.grown ls ok w) c.if-m-gt-MOST_POSITIONS.false));
      upper_bound = p.ensures.rows_counted.1;
      nothing_written = λ o. absurd (by_cases o (λ d. d c.if-t-ne-ROWS.false) (λ d. let k = c.if-n-gt-MOST_POSITIONS.false in omega arith));
    }
