use mathlib.Core.Path.{◌≡◌, refl, sym, subst}
use mathlib.Core.Bool.{true, false}
use Prim.Native.Nat.{ℕ, ◌+◌, ◌-◌, ◌%◌, ◌<◌, ◌≤◌}
use native.Mathlib.Omega.{arith}
use Rattle.usage.specs.Tests.{some_below}
use borrow.Author.Tests.{le-leb, lt-leb}
use Rattle.automaton.specs.Mask.{offends}
use Rattle.automaton.proofs.MaskLaws.{some_at}
use Rattle.checker_account.specs.Tables.{half}
use Rattle.checker_account.specs.Filling.{hit_node_lem}
use Rattle.checker_account.proofs.CodeLaws.{none_more}
use Rattle.checker_account.proofs.EntryBounds.{meanings-le}
use Rattle.checker_tables.proofs.NumberLaws.{code-room}
use Rattle.checker_tables.proofs.hits.hit_node.Goals as goal
use Rattle.checker_tables.proofs.hits.hit_node.Invariants.{test}

hit : (v w : ℕ) → v ≡ w → 64 ≤ v % 256 → offends (half false w) ≡ true
hit v w e h = subst (λ (n : ℕ). offends (half false n) ≡ true) e (le-leb 64 (v % 256) h)

miss : (v w : ℕ) → v ≡ w → v % 256 < 64 → offends (half false w) ≡ false
miss v w e h = subst (λ (n : ℕ). offends (half false n) ≡ false) e (lt-leb 64 (v % 256) h)

pub overflow_sub-n : goal.overflow_sub-n
overflow_sub-n c =
    let m = meanings-le c.args.s.resources in omega (arith, c.least-l.ensures.upper_bound, c.codes_of.ensures)

pub loop-i-init : goal.loop-i-init
unfolding some_below
loop-i-init c =
    refl

pub leaves_by-v-requires : goal.leaves_by-v-requires
leaves_by-v-requires c =
    let p = c.requires in
    let r = code-room c.args.s.resources (c.least-l.result + c.loop-i.i) (omega (arith, c.loop-i-test.true, c.codes_of.ensures)) in
    record { c_bound = r.0; c_in_bounds = omega (arith, r.1, p) }

pub returns-then-v-ge64 : goal.returns-then-v-ge64
unfolding hit_node_lem
returns-then-v-ge64 c =
    let a = c.args in
    let low = c.least-l in
    let i = c.loop-i.i in
    let f = test a.u.now a.s.rows.now a.w.local a.w.policy a.s.resources low.result a.s.node a.s.form in
    let v = c.leaves_by-v in
    let h : i < c.codes_of.result - low.result = omega (arith, c.loop-i-test.true) in
    let m : 64 ≤ v.result % 256 = omega (arith, c.if-v-ge64.true) in
    rw (sym low.ensures.value, sym c.codes_of.ensures) (sym (some_at (c.codes_of.result - low.result) f i h (hit v.result _ v.ensures m)))

pub loop-i-preserved : goal.loop-i-preserved
loop-i-preserved c =
    let a = c.args in
    let low = c.least-l in
    let i = c.loop-i.i in
    let f = test a.u.now a.s.rows.now a.w.local a.w.policy a.s.resources low.result a.s.node a.s.form in
    let v = c.leaves_by-v in
    let m : v.result % 256 < 64 = omega (arith, c.if-v-ge64.false) in
    none_more f i c.loop-i.invariant (miss v.result _ v.ensures m)

pub returns : goal.returns
unfolding hit_node_lem
returns c =
    let l = c.loop-i in
    let low = c.least-l in
    let e : l.i ≡ c.codes_of.result - low.result = omega arith in
    rw (sym low.ensures.value, sym c.codes_of.ensures) (sym (rw e at l.invariant))
