use mathlib.Core.Bool.{Bool, true, false}
use mathlib.Core.List.{List}
use lib.ListN.{get_or}
use borrow.Author.Count.{below_more}
use Prim.Native.Nat.{ℕ, ◌≤◌, ◌<◌}
use Rattle.outline_nodes.specs.Said.{said_by}
use Rattle.checker_account.specs.Tables.{place}
use Rattle.checker_lengths.specs.Filling.{StatesSettled}
use Rattle.checker_lengths.proofs.PassLaws.{pass-then, states-last}
use Rattle.checker_lengths.proofs.fill.settle_node.Goals as goal

both : (C : Bool → Type 0) → C false → C true → (o : Bool) → C o
both C f t false = f
both C f t true = t

pub loop-m-preserved : goal.loop-m-preserved
loop-m-preserved c =
    let a = c.args in
    let l = c.loop-m in
    let f = said_by a.r.form in
    let D : ℕ → Bool → List ℕ → Type 0 = λ j o y. StatesSettled a.r.watch a.r.rows.now f y a.k o j (get_or a.u.now (place a.k o j) 0) in
    let v : Bool → ℕ → ℕ = λ o j. get_or a.u.now (place a.k o j) 0 in
    pass-then
    (λ y (x, p) q. below_more (λ (j : ℕ). a.l ≤ j → (o : Bool) → D j o y) l.m x (λ _. both (λ (o : Bool). D l.m o y) p q))
    (λ z g (h, p). (
      λ j b low o. states-last a.r.watch a.r.rows.now a.k f z g a.k o j (v o j) (h j b low o),
      states-last a.r.watch a.r.rows.now a.k f z g a.k false l.m (v false l.m) p,
    ))
    (pass-then {F = λ y. ((j : ℕ) → j < l.m → a.l ≤ j → (o : Bool) → D j o y) × D l.m false y} (λ _ x p. (x, p))
    (λ z g h j b low o. states-last a.r.watch a.r.rows.now a.k f z g a.k o j (v o j) (h j b low o)) l.invariant c.settle_meaning-changed.ensures)
    c.settle_meaning-changed-in-loop-m.ensures
