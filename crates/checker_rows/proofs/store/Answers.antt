use native.Mathlib.Omega.{arith}
use mathlib.Core.Path.{◌≡◌, refl, ap}
use Prim.Native.Nat.{ℕ, ◌+◌, ◌*◌}
use Rattle.usage.specs.Limits.{states}
use Rattle.checker_account.specs.Filling.{repeat}
use Rattle.checker_account.specs.RowTable.{store_row, rows_stored}
use Rattle.checker_account.proofs.GrowsLaws.{repeat-more}
use lib.ListN.{get_or, set}
use native.Mathlib.Numerals.{add-one}
use Rattle.checker_account.specs.Tables.{row_at}
use Rattle.checker_rows.proofs.store.Goals as goal

pub loop-q-init : goal.loop-q-init
unfolding repeat
loop-q-init c = refl

pub loop-q-preserved : goal.loop-q-preserved
loop-q-preserved c =
    let a = c.args in
    let l = c.loop-q in
    let f = store_row a.s.node a.way a.s.policy a.own.now a.other.now in
    let other = get_or a.other.now (a.s.policy * states + l.q) 0 in
    let own = get_or a.own.now (a.s.policy * states + l.q) 0 in
    let e = ap (λ (w : ℕ). set (set l.rows (row_at a.s.node a.way + l.q) other) (row_at a.s.node w + l.q) own) (add-one a.way) in
    repeat-more f l.q a.rows.now l.rows _ l.invariant e

pub returns : goal.returns
unfolding rows_stored
returns c =
    let l = c.loop-q in
    let e : l.q ≡ states = omega arith in
    rw e at l.invariant
