use mathlib.Core.Path.{◌≡◌, refl, sym, ap, ◌∙◌}
use mathlib.Core.Bool.{Bool, ◌||◌}
use mathlib.Core.List.{List}
use Prim.Native.Nat.{ℕ, ◌+◌, ◌-◌, ◌*◌, ◌/◌, ◌<◌, ◌≤◌}
use native.Mathlib.Omega.{arith}
use Rattle.outline_nodes.specs.declared.NodeForm.{NodeForm}
use Rattle.outline_nodes.specs.Said.{said_by}
use Rattle.checker_account.specs.declared.Watch.{Watch}
use Rattle.checker_account.specs.declared.Resources.{Resources}
use mathlib.Core.Bool.{or-false}
use Rattle.usage.proofs.Logic.{or_right}
use Rattle.checker_account.specs.Tables.{codes_of, rows_in}
use Rattle.checker_account.specs.Filling.{repeat, by_open, entered, arrivals_of, odd, pass_node_lem, Wide}
use Rattle.checker_account.proofs.GrowsLaws.{Grows, grown-self, repeat-length, turn}
use Rattle.checker_account.proofs.PassLaws.{pass-grows}
use Rattle.checker_account.proofs.EntryBounds.{meanings-le}
use Rattle.checker_tables.proofs.NumberLaws.{code-room, codes-most, waiting-room}
use Rattle.checker_tables.proofs.arrivals.pass_node.Goals as goal
use Rattle.checker_tables.proofs.arrivals.pass_node.Goals.{else-pass, then-pass}
use Rattle.checker_tables.proofs.arrivals.pass_node.Invariants.{steps}

steps-grow : (opened shut rows : List ℕ) (x : Resources) (w : Watch) (l k : ℕ) (f : NodeForm) (i : ℕ) (u : List ℕ)
    → Grows u (steps opened shut rows x w l k f i u)
steps-grow opened shut rows x w l k f i u =
    pass-grows w.local (rows_in rows) w.policy x (by_open opened shut (odd i)) k (said_by f) (odd i) (l + i / 2) u

-- the codes that are gone through occur
occurs : (l n i : ℕ) → l ≤ n → i < 2 * (n - l) → l + i / 2 < n
occurs l n i h b = omega arith

pub overflow_sub-n : goal.overflow_sub-n
overflow_sub-n c =
    let m = meanings-le c.args.s.resources in omega (arith, c.least-l.ensures.upper_bound, c.codes_of.ensures)

pub overflow_mul-n : goal.overflow_mul-n
overflow_mul-n c =
    let m = codes-most c.args.s.resources in omega (arith, c.codes_of.ensures)

pub loop-i-init : goal.loop-i-init
unfolding repeat
loop-i-init c =
    (refl, (sym (grown-self c.args.u.now), λ w. w))

pub states_at-requires : goal.states_at-requires
states_at-requires c =
    let a = c.args in
    let low = c.least-l in
    let l = c.loop-i in
    let p = c.requires in
    let m = meanings-le a.s.resources in
    let b = occurs low.result c.codes_of.result l.i (omega (arith, low.ensures.upper_bound, c.codes_of.ensures)) c.loop-i-test.true in
    let r = code-room a.s.resources (low.result + l.i / 2) (omega (arith, c.codes_of.ensures)) in
    let n = repeat-length (steps a.ends.opened.now a.ends.shut.now a.s.rows.now a.s.resources a.w low.result a.s.node a.s.form)
    (steps-grow a.ends.opened.now a.ends.shut.now a.s.rows.now a.s.resources a.w low.result a.s.node a.s.form) l.i a.u.now l.u l.invariant.0 in
    record { k_lt_most_nodes = a.s.node_in; c_bound = r.0; c_in_bounds = omega (arith, r.1, n, p.u_len) }

pub pass-requires : goal.pass-requires
pass-requires c =
    let a = c.args in
    let low = c.least-l in
    let f = steps a.ends.opened.now a.ends.shut.now a.s.rows.now a.s.resources a.w low.result a.s.node a.s.form in
    let grows = steps-grow a.ends.opened.now a.ends.shut.now a.s.rows.now a.s.resources a.w low.result a.s.node a.s.form in
    let l = c.loop-i in
    let p = c.requires in
    let m = meanings-le a.s.resources in
    let b = occurs low.result c.codes_of.result l.i (omega (arith, low.ensures.upper_bound, c.codes_of.ensures)) c.loop-i-test.true in
    let i : low.result + l.i / 2 < codes_of a.s.resources = omega (arith, c.codes_of.ensures) in
    let r = code-room a.s.resources (low.result + l.i / 2) i in
    let n = repeat-length f grows l.i a.u.now l.u l.invariant.0 in
    let s = sym (n ∙ p.u_len) in record {
      meaning_bound = r.0;
      meaning_in_bounds = omega (arith, r.1, n, p.u_len);
      ends_len = p.ends_len ∙ s;
      late_group_in_bounds = λ d.
          omega (arith, waiting-room a.s.resources (low.result + l.i / 2) i d, n, p.u_len);
    }

pub loop-i-preserved : goal.loop-i-preserved
loop-i-preserved c =
    let a = c.args in
    let low = c.least-l.result in
    let l = c.loop-i in
    let f = steps a.ends.opened.now a.ends.shut.now a.s.rows.now a.s.resources a.w low a.s.node a.s.form in
    let grows = steps-grow a.ends.opened.now a.ends.shut.now a.s.rows.now a.s.resources a.w low a.s.node a.s.form in
    let s = c.pass in
    let w = s.new.u in
    let e : w ≡ f l.i l.u =
    s.ensures.0
    ∙ ap (λ (v : ℕ). entered (arrivals_of a.w.local (rows_in a.s.rows.now) a.w.policy a.s.resources
    (by_open a.ends.opened.now a.ends.shut.now (odd l.i)) a.s.node (odd l.i) (low + l.i / 2) v (said_by a.s.form)) l.u)
    c.states_at.ensures in
    let wide : Wide a.u.now → Wide w = λ h. s.ensures.1.1 (l.invariant.1.1 h) in
    let r = s.result in
    let made = turn f grows l.i a.u.now l.u w l.changed r (l.invariant.0, l.invariant.1.0) e s.ensures.1.0 in
    let noted : c.if-pass.changed ≡ (l.changed || r) =
    elim c.if-pass.branch [ then-pass w ↦ w.changed-is ∙ sym (or_right l.changed r w.if-pass.true) | else-pass w ↦ w.changed-is ∙ sym (or-false l.changed) ∙ ap (λ (b : Bool). l.changed || b) (sym w.if-pass.false) ] in
    (made.0, (noted ∙ made.1, wide))

pub returns : goal.returns
unfolding pass_node_lem
returns c =
    let l = c.loop-i in
    let low = c.least-l in
    let e : l.i ≡ 2 * (c.codes_of.result - low.result) = omega arith in
    record { u_after = rw (sym low.ensures.value, sym c.codes_of.ensures) (rw e at l.invariant.0); value = l.invariant.1.0; wide = l.invariant.1.1 }
