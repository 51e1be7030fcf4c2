-- `join` meets its contract. A place is written only where there is one.
use Prim.Native.Nat.{◌<◌}
use borrow.Author.Tests.{lt-ltb}
use Rattle.automaton.specs.Code.{joined}
use Rattle.automaton.proofs.RowLaws.{shifted-single}
use Rattle.automaton.proofs.UnionLaws.{placed, not-placed}
use borrow.Author.Rules.{rules}
use Rattle.automaton.proofs.moves.join.Goals as goal

pub overflow_mul-k : goal.overflow_mul-k
overflow_mul-k c =
    let a = c.args in
    let h = placed a.policy a.from a.to c.if-policy-from-lt8.true in
    let p : a.policy < 8 = h.policy in
    search rules

pub overflow_add-k : goal.overflow_add-k
overflow_add-k c =
    let a = c.args in
    let h = placed a.policy a.from a.to c.if-policy-from-lt8.true in
    let p : a.policy < 8 = h.policy in
    let q : a.from < 8 = h.state in
    search rules

pub bounds-table-k : goal.bounds-table-k
bounds-table-k c =
    let a = c.args in
    let h = placed a.policy a.from a.to c.if-policy-from-lt8.true in
    let p : a.policy < 8 = h.policy in
    let q : a.from < 8 = h.state in
    search rules

pub overflow_shl-table : goal.overflow_shl-table
overflow_shl-table c =
    let a = c.args in
    (placed a.policy a.from a.to c.if-policy-from-lt8.true).end

pub bounds-table-k-then-policy-from-lt8 : goal.bounds-table-k-then-policy-from-lt8
bounds-table-k-then-policy-from-lt8 c =
    let a = c.args in
    let h = placed a.policy a.from a.to c.if-policy-from-lt8.true in
    let p : a.policy < 8 = h.policy in
    let q : a.from < 8 = h.state in
    search rules

pub returns-then-policy-from-lt8 : goal.returns-then-policy-from-lt8
unfolding joined
returns-then-policy-from-lt8 c =
    let a = c.args in
    let h = placed a.policy a.from a.to c.if-policy-from-lt8.true in
    simp (lt-ltb a.policy 8 h.policy, lt-ltb a.from 8 h.state, shifted-single a.to h.end)

pub returns-else-policy-from-lt8 : goal.returns-else-policy-from-lt8
returns-else-policy-from-lt8 c =
    let a = c.args in
    not-placed _ a.policy a.from a.to c.if-policy-from-lt8.false
