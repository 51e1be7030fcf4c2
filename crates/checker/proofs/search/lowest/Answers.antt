use borrow.Author.Count.{below_more}
use Rattle.usage.specs.Limits.{policies}
use Rattle.usage.specs.Tables.{edges_of, nodes_of}
use Rattle.usage.specs.Check.{Leaves}
use Rattle.usage.proofs.Logic.{not-both}
use Rattle.checker.proofs.PolicyLaws.{named-lowest, all-good}
use native.Mathlib.Omega.{arith}
use mathlib.Core.Path.{◌≡◌}
use Prim.Native.Nat.{ℕ}
use Rattle.checker.proofs.search.lowest.Goals as goal

pub returns-then-leaves : goal.returns-then-leaves
returns-then-leaves c =
    let a = c.args in
    let h = c.requires in
    let l = c.loop-p in
    named-lowest a.local a.edges.now a.nodes.now h.edges_ok h.outline_ok l.p (c.leaves.ensures.0 c.if-leaves.true) l.invariant

pub loop-p-preserved : goal.loop-p-preserved
loop-p-preserved c =
    let a = c.args in
    let l = c.loop-p in
    below_more (λ (s : ℕ). Leaves a.local (edges_of a.edges.now) (nodes_of a.nodes.now) s → ⊥) l.p l.invariant
    (λ b. not-both c.leaves.result (c.leaves.ensures.1 b) c.if-leaves.false)

pub returns : goal.returns
returns c =
    let a = c.args in
    let h = c.requires in
    let l = c.loop-p in
    let e : l.p ≡ policies = omega arith in
    all-good a.local a.edges.now a.nodes.now h.edges_ok h.outline_ok (λ s k. l.invariant s (omega arith))
