use Prim.Native.Nat.{ℕ, ◌≤◌, ◌<◌}
use mathlib.Core.Path.{◌≡◌, sym, ap, ap₂, ◌∙◌}
use mathlib.Core.List.{List}
use native.Mathlib.Omega.{arith}
use lib.Bits.{bit_or}
use lib.ListN.{length, get_or, set, length-set}
use Rattle.automaton.specs.Mask.{union}
use Rattle.monitor_sets.specs.Instances.{instances}
use Rattle.automaton.specs.Move.{move_by}
use Rattle.monitor_pairs.proofs.GatherLaws.{four-parts, neither-joined, first-joined, second-joined, both-joined}
use borrow.Author.Rules.{rules}
use Rattle.monitor_pairs.proofs.gathering.after_rows.Goals as goal

pub returns : goal.returns
returns c =
    let a = c.args in
    let w = a.ways in
    let l = a.sets.now in
    let n : a.n ≤ instances = omega arith in
    let m : a.at < a.n = omega arith in
    let line = c.columns_beside-others.ensures in
    let row = c.row_of-row.ensures in
    let whole : (u : List ℕ) → length u ≡ instances
    → union (length (set u a.at 0)) (λ j. get_or (set u a.at 0) j 0) ≡ union instances (λ j. get_or (set u a.at 0) j 0) =
    λ u e. ap (λ (n : ℕ). union n (λ j. get_or (set u a.at 0) j 0)) (length-set u a.at 0 ∙ e) in
    let neither = c.move_by_rows.ensures ∙ ap (move_by w.neither 0) (c.union_all.ensures ∙ whole c.columns_beside-others.result (search rules)
    ∙ ap (λ (u : List ℕ). union instances (λ j. get_or (set u a.at 0) j 0)) line ∙ neither-joined w a.at a.n l n m) in
    let first = c.move_by_rows-2.ensures ∙ ap (move_by w.first 0) (c.union_all-2.ensures ∙ whole c.row_of-row.result (search rules)
    ∙ ap (λ (u : List ℕ). union instances (λ j. get_or (set u a.at 0) j 0)) row ∙ first-joined w a.at a.n l n m) in
    let second = c.move_by_rows-3.ensures ∙ ap (move_by w.second 0) (ap (λ (u : List ℕ). get_or u a.at 0) line
    ∙ second-joined w a.at a.n l n m) in
    let both = c.move_by_rows-4.ensures ∙ ap (move_by w.both 0) (ap (λ (u : List ℕ). get_or u a.at 0) row
    ∙ both-joined w a.at a.n l n m) in
    ap₂ (λ (u v : ℕ). bit_or u v) (ap₂ (λ (u v : ℕ). bit_or u v) (ap₂ (λ (u v : ℕ). bit_or u v) neither first) second) both
    ∙ sym (four-parts w a.at a.n l n m)
