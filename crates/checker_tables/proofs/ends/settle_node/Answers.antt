use native.Mathlib.Omega.{arith}
use mathlib.Core.Path.{◌≡◌, refl, sym, ◌∙◌}
use mathlib.Core.List.{List}
use Prim.Native.Nat.{ℕ, ◌+◌, ◌-◌}
use lib.ListN.{get_or}
use Rattle.outline_nodes.specs.declared.NodeForm.{NodeForm}
use Rattle.outline_nodes.specs.Said.{said_by}
use Rattle.checker_account.specs.declared.Resources.{Resources}
use Rattle.checker_account.specs.Tables.{rows_in, Resets, base}
use Rattle.checker_tables.specs.Search.{resets_if}
use Rattle.checker_account.specs.Filling.{repeat, ends_of_lem, settle_node_lem}
use Rattle.checker_account.proofs.GrowsLaws.{Grows, grown-self, repeat-length, turn}
use Rattle.checker_account.proofs.SettleLaws.{entry-grows, each_same}
use Rattle.checker_account.proofs.EntryBounds.{least-le, meanings-le, codes-le}
use Rattle.checker_tables.proofs.NumberLaws.{entry-room}
use Rattle.checker_tables.proofs.ends.settle_node.Goals as goal
use Rattle.checker_tables.proofs.ends.settle_node.Invariants.{settles}

settles-grow : (rows : List ℕ) (x : Resources) (resets : Resets) (l k : ℕ) (f : NodeForm) → (i : ℕ) (t : List ℕ)
    → Grows t (settles rows x resets l k f i t)
settles-grow rows x resets l k f i t = entry-grows (rows_in rows) x resets k (said_by f) (l + i) t

pub overflow_sub-n : goal.overflow_sub-n
overflow_sub-n c =
    let b = least-le c.args.s.resources in
    let m = meanings-le c.args.s.resources in
    let k = codes-le c.args.s.resources in
    omega (arith, c.least-l.ensures.value, c.entries_of.ensures)

pub loop-i-init : goal.loop-i-init
unfolding repeat
loop-i-init c =
    (refl, sym (grown-self c.args.t.now))

pub ends_by-v-requires : goal.ends_by-v-requires
ends_by-v-requires c =
    let a = c.args in
    let x = a.s.resources in
    let low = c.least-l in
    let l = c.loop-i in
    let h = c.loop-i-test.true in
    let resets = resets_if a.w.local a.w.policy a.opened.now in
    let n = repeat-length (settles a.s.rows.now x resets low.result a.s.node a.s.form)
    (settles-grow a.s.rows.now x resets low.result a.s.node a.s.form) l.i a.t.now l.t l.invariant.0 in
    let p = c.requires in
    let r = entry-room x (low.result + l.i) (omega (arith, c.entries_of.ensures)) in
    record { e_bound = r.0; e_in_bounds = omega (arith, r.1, n, p.t_len); opened_len = λ d. p.opened_len d ∙ sym (n ∙ p.t_len) }

pub loop-i-preserved : goal.loop-i-preserved
loop-i-preserved c =
    let a = c.args in
    let low = c.least-l in
    let resets = resets_if a.w.local a.w.policy a.opened.now in
    let l = c.loop-i in
    let f = settles a.s.rows.now a.s.resources resets low.result a.s.node a.s.form in
    let grows = settles-grow a.s.rows.now a.s.resources resets low.result a.s.node a.s.form in
    let m = low.result + l.i in
    let v = c.ends_by-v in
    let j = c.join_sets-changed in
    let e : j.new.t ≡ f l.i l.t =
    j.ensures.t_after
    ∙ each_same l.t (base a.s.node m) (λ q. get_or v.result q 0)
    (λ q. ends_of_lem (rows_in a.s.rows.now) a.s.resources resets l.t a.s.node m q (said_by a.s.form)) v.ensures.held in
    let made = turn f grows l.i a.t.now l.t j.new.t l.changed
    j.result l.invariant e j.ensures.value in
    made

pub returns : goal.returns
unfolding settle_node_lem
returns c =
    let l = c.loop-i in
    let low = c.least-l in
    let e : l.i ≡ c.entries_of.result - low.result = omega arith in
    record { t_after = rw (sym low.ensures.value, sym c.entries_of.ensures) (rw e at l.invariant.0); value = l.invariant.1 }
