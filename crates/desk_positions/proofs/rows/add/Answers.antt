use Rattle.desk_positions.specs.Rows.{known, no_room, new}
use Rattle.desk_positions.proofs.CellLaws.{written-rows, written-other}
use native.Mathlib.Omega.{arith}
use mathlib.Core.Path.{◌≡◌, refl, sym, ◌∙◌}
use lib.ListN.{length}
use borrow.Author.Rules.{rules}
use Rattle.desk_positions.proofs.rows.add.Goals as goal

-- src/lib.rt:225:9
pub returns-then-find : goal.returns-then-find
returns-then-find c = known (sym c.find.ensures ∙ c.if-find.true)

-- src/lib.rt:228:9
pub returns-then-n-ge-MOST_POSITIONS : goal.returns-then-n-ge-MOST_POSITIONS
returns-then-n-ge-MOST_POSITIONS c = no_room (sym c.find.ensures ∙ c.if-find.false) c.if-n-ge-MOST_POSITIONS.true

-- src/lib.rt:218:1
pub returns : goal.returns
returns c =
    let a = c.args in
    let s = c.store in
    let k : length a.r.cells ≡ 81 = search rules in
    new (sym c.find.ensures ∙ c.if-find.false) (omega arith) s.ensures.long
    (written-rows a.t.now a.r.cells a.n s.new.t s.ensures k a.n refl)
    (λ i h. written-other a.t.now a.r.cells a.n s.new.t s.ensures i (λ e. omega arith))
