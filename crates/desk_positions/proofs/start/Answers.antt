use mathlib.Core.List.{[], ◌∷◌}
use Rattle.usage.specs.Tables.{nodes_of}
use Rattle.usage.proofs.Logic.{by_cases}
use Rattle.desk_positions.specs.Positions.{start_position}
use Rattle.desk_positions.proofs.NextLaws.{start-tabled, start-settles}
use native.Mathlib.Omega.{arith}
use mathlib.Core.Path.{◌≡◌}
use lib.ListN.{length}
use borrow.Author.Rules.{rules}
use Rattle.desk_positions.proofs.start.Goals as goal

-- src/lib.rt:647:1
pub returns : goal.returns
returns c =
    let a = c.args in
    let p = c.push-r in
    let s = c.store in
    let k : length p.result.cells ≡ 81 = search rules in record {
      settles = λ ok l. start-settles (nodes_of a.nodes.now) c.spread.result c.spread.new.t
          (c.spread.ensures.settles (start_position ∷ []) ok
          (start-tabled a.t.now p.result.cells s.new.t k p.ensures s.ensures));
      upper_bound = c.spread.ensures.rows_counted.1;
      nothing_written = λ o. absurd (by_cases o (λ d. d c.if-t-ne-ROWS.false) (λ d. omega arith));
    }
