use Prim.Native.Nat.{ℕ, ◌+◌, ◌<◌}
use mathlib.Core.List.{List}
use mathlib.Core.Path.{◌≡◌, refl, sym, ◌∙◌}
use native.Mathlib.Omega.{arith}
use lib.ListN.{get_or}
use Rattle.automaton.specs.Mask.{union}
use Rattle.automaton.specs.Move.{move_by}
use Rattle.automaton.proofs.RowLaws.{stays_moved}
use Rattle.monitor_sets.specs.Instances.{set_places}
use Rattle.monitor_sets.proofs.MovedLaws.{row-none, row_stays, union-stays, row_next, row_more}
use Rattle.monitor_sets.proofs.LaneLaws.{union-part}
use Rattle.monitor_sets.proofs.SetLaws.{union_more}
use borrow.Author.Rules.{rules}
use Rattle.monitor_sets.proofs.instances.move_row.Goals as goal

pub returns-then-stays : goal.returns-then-stays
returns-then-stays c =
    let a = c.args in
    let same = stays_moved a.rows (sym c.stays.ensures ∙ c.if-stays.true) in
    record { sets_after = row_stays a.rows a.k a.sets.now a.n c.told-sets c.fits-sets same; value = c.union_all.ensures ∙ union-part a.sets.now a.k _ a.n (omega arith) (omega arith) ∙ union-stays a.rows a.k a.sets.now a.n c.fits-sets same }

pub loop-i-init : goal.loop-i-init
unfolding union
loop-i-init c =
    (search rules, (row-none _ c.args.k c.args.sets.now c.told-sets, refl))

pub loop-i-preserved : goal.loop-i-preserved
loop-i-preserved c =
    let a = c.args in
    let t = c.loop-i in
    let rows : List ℕ = a.rows in
    let l : a.k + t.i < set_places = omega arith in (
      search rules,
      (
        rw (c.move_by_rows-moved.ensures, t.invariant.1.0, row_next rows a.k a.sets.now t.i l)
            (row_more rows a.k a.sets.now t.i l),
        rw (t.invariant.1.1, c.move_by_rows-moved.ensures, t.invariant.1.0, row_next rows a.k a.sets.now t.i l)
            (union_more t.i (λ j. move_by rows 0 (get_or a.sets.now (a.k + j) 0))),
      ),
    )

pub returns : goal.returns
returns c =
    let a = c.args in
    let e : c.loop-i.i ≡ a.n = omega arith in
    record { sets_after = rw (← e) c.loop-i.invariant.1.0; value = rw (← e) c.loop-i.invariant.1.1 }
