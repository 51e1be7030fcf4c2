use Rattle.sheet_rules.proofs.CountLaws.{count_none, count-far, count-one}
use native.Mathlib.Omega.{arith}
use mathlib.Core.Path.{◌≡◌}
use lib.ListN.{length}
use borrow.Author.Rules.{rules}
use Rattle.sheet_rules.proofs.tree.counted.Goals as goal

pub returns-then-not-child : goal.returns-then-not-child
returns-then-not-child c = λ k h.
    let a = c.args in
    count_none a.counts k a.child a.x c.if-not-child.true-raw

pub returns-then-c-ge-MOST_NODES : goal.returns-then-c-ge-MOST_NODES
returns-then-c-ge-MOST_NODES c = λ k h.
    let a = c.args in
    count-far a.counts k a.child a.x c.if-not-child.false-raw (λ q. let z = c.if-c-ge-MOST_NODES.true in omega arith)

pub returns : goal.returns
returns c = λ k h.
    let a = c.args in
    let l : length a.counts ≡ 64 = search rules in
    let z = c.if-c-ge-MOST_NODES.false in
    count-one a.counts k a.child a.x c.if-not-child.false-raw (omega arith)
