use native.Mathlib.Omega.{arith}
use mathlib.Core.Path.{◌≡◌, refl, sym}
use mathlib.Core.List.{List}
use Prim.Native.Nat.{ℕ, ◌+◌}
use lib.ListN.{get_or}
use Rattle.usage.specs.Limits.{states}
use Rattle.checker_account.specs.Filling.{repeat, joined_each}
use Rattle.checker_account.proofs.GrowsLaws.{Grows, joined-grows, grown-self, turn}
use Rattle.checker_tables.proofs.ends.join_sets.Goals as goal
use Rattle.checker_tables.proofs.ends.join_sets.Invariants.{steps}

steps-grow : (i : ℕ) (v : List ℕ) (q : ℕ) (u : List ℕ) → Grows u (steps i v q u)
steps-grow i v q u = joined-grows u (i + q) (get_or v q 0)

pub loop-q-init : goal.loop-q-init
unfolding repeat
loop-q-init c = (refl, sym (grown-self c.args.t.now))

pub loop-q-preserved : goal.loop-q-preserved
loop-q-preserved c =
    let a = c.args in
    let l = c.loop-q in
    let j = c.join-changed in
    let made = turn (steps a.i a.v) (steps-grow a.i a.v) l.q a.t.now l.t j.new.t l.changed
    j.result l.invariant j.ensures.t_after j.ensures.value in
    made

pub returns : goal.returns
unfolding joined_each
returns c =
    let l = c.loop-q in
    let e : l.q ≡ states = omega arith in
    record { t_after = rw e at l.invariant.0; value = l.invariant.1 }
