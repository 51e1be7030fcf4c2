use mathlib.Core.Bool.{true}
use Rattle.usage.proofs.Logic.{not-both}
use borrow.Author.Count.{below_more}
use Rattle.outline_nodes.specs.Said.{said_by}
use Rattle.automaton.specs.Mask.{has}
use Rattle.checker_lengths.specs.Entries.{entry_of}
use Rattle.checker_lengths.specs.Offers.{toward}
use Rattle.checker_lengths.specs.Filling.{StartSettled}
use Rattle.checker_lengths.proofs.PassLaws.{pass-then, pass-map, start-lasts}
use Rattle.checker_lengths.proofs.EntryLaws.{in-table}
use native.Mathlib.Omega.{arith}
use mathlib.Core.Path.{◌≡◌, ◌∙◌}
use Prim.Native.Nat.{ℕ}
use mathlib.Core.List.{List}
use Rattle.checker_lengths.proofs.fill.settle_states.Goals as goal
use Rattle.checker_lengths.proofs.fill.settle_states.Goals.{then-has, else-has}

pub settle_start-changed-requires : goal.settle_start-changed-requires
settle_start-changed-requires c =
    let a = c.args in
    let p = c.requires in
    in-table (toward (entry_of a.g.to a.g.opened a.g.meaning c.loop-q.q 0) 0) p.to_lt_most_nodes p.meaning_lt_meanings
    (omega arith)
    (omega arith)

pub loop-q-preserved : goal.loop-q-preserved
loop-q-preserved c =
    let a = c.args in
    let l = c.loop-q in
    let f = said_by a.r.form in
    let P : List ℕ → ℕ → Type 0 =
    λ u j. has a.g.states j ≡ true → StartSettled a.r.watch a.r.rows.now f u (entry_of a.g.to a.g.opened a.g.meaning j 0) in
    elim c.if-has.branch [
      | then-has w ↦ rw (w.t-is, w.changed-is) (pass-then (λ u x y. below_more (P u) l.q x (λ _. y))
          (λ z g h j b e. start-lasts a.r.watch a.r.rows.now a.g.to f z g (entry_of a.g.to a.g.opened a.g.meaning j 0) (h j b e))
          l.invariant w.settle_start-changed.ensures)
      | else-has w ↦ rw (w.t-is, w.changed-is) (pass-map
          (λ u x. below_more (P u) l.q x (λ e. not-both c.has.result (c.has.ensures ∙ e) w.if-has.false))
          l.invariant)
    ]
