use Rattle.checker_lengths.proofs.PassLaws.{pass-falls}
use Rattle.checker_lengths.proofs.EntryLaws.{bounds, linear-lt}
use native.Mathlib.Omega.{arith}
use Rattle.checker_lengths.proofs.fill.put.Goals as goal

pub place-at-requires : goal.place-at-requires
place-at-requires c = bounds c.args.e c.requires

pub bounds-t-at : goal.bounds-t-at
bounds-t-at c = let h = linear-lt c.args.e c.requires in omega (arith, c.place-at.ensures)

pub returns-then-v-t : goal.returns-then-v-t
returns-then-v-t c = λ w rows f n offered.
    let a = c.args in
    let h = linear-lt a.e c.requires in
    pass-falls w rows f a.e n a.t.now c.place-at.result a.v c.place-at.ensures offered
    (omega (arith, c.place-at.ensures)) c.requires c.if-v-t.true
