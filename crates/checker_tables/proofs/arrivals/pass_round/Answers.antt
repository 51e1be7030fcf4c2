use mathlib.Core.Path.{◌≡◌, refl, sym, ap, ◌∙◌}
use mathlib.Core.List.{List}
use Prim.Native.Nat.{ℕ, ◌/◌}
use native.Mathlib.Omega.{arith}
use lib.ListN.{length}
use mathlib.Core.Option.{Option}
use Rattle.usage.specs.Limits.{node_fields}
use Rattle.usage.specs.Outline.{Form}
use Rattle.outline_nodes.proofs.SaidLaws.{form-at, said-some, said-none}
use Rattle.checker_account.specs.declared.Watch.{Watch}
use Rattle.checker_account.specs.Tables.{rows_in}
use Rattle.checker_account.specs.Filling.{repeat, forms_in, by_open, pass_node_lem, pass_round_lem}
use Rattle.checker_account.proofs.GrowsLaws.{Grows, grown-self, repeat-more, turn}
use Rattle.checker_account.proofs.PassLaws.{pass-node-grows}
use Rattle.checker_tables.proofs.FitLaws.{form-small}
use Rattle.checker_tables.proofs.arrivals.pass_round.Goals as goal
use Rattle.checker_tables.proofs.arrivals.pass_round.Goals.{in-Some, in_default}
use Rattle.checker_tables.proofs.NoneLaws.{none-passed}
use Rattle.checker_tables.proofs.arrivals.pass_round.Invariants.{steps}

steps-grow : (opened shut nodes rows : List ℕ) (w : Watch) (k : ℕ) (u : List ℕ) → Grows u (steps opened shut nodes rows w k u)
steps-grow opened shut nodes rows w k u =
    pass-node-grows w.local (rows_in rows) w.policy w.resources (by_open opened shut) k (forms_in nodes k) u

pub loop-k-init : goal.loop-k-init
unfolding repeat
loop-k-init c =
    (refl, (sym (grown-self c.args.u.now), λ w. w))

pub invariant_of-s : goal.invariant_of-s
invariant_of-s c =
    let k = c.loop-k.k in
    let h = c.loop-k-test.true in
    let fit = c.requires.nodes_fit in
    let is = sym (said-some c.in-Some.is) ∙ c.form.ensures ∙ form-at c.args.nodes.now k h in
    record { node_in = omega (arith, fit.few); form_small = form-small fit k h _ is }

pub loop-k-preserved : goal.loop-k-preserved
loop-k-preserved c =
    let a = c.args in
    let l = c.loop-k in
    let f = steps a.ends.opened.now a.ends.shut.now a.nodes.now a.rows.now a.w in
    let grows = steps-grow a.ends.opened.now a.ends.shut.now a.nodes.now a.rows.now a.w in
    let ends = by_open a.ends.opened.now a.ends.shut.now in
    let by : Option Form → List ℕ = λ d. pass_node_lem a.w.local (rows_in a.rows.now) a.w.policy a.w.resources ends l.k d l.u in
    let at = c.form.ensures ∙ form-at a.nodes.now l.k c.loop-k-test.true in
    let kept = l.invariant in
    elim c.match-form.branch [
      | in-Some w ↦
          let s = w.pass_node-changed in
          let e : s.new.u ≡ f l.k l.u = s.ensures.u_after ∙ ap by (sym (said-some w.in-Some.is) ∙ at) in
          let made = turn f grows l.k a.u.now l.u s.new.u l.changed s.result (kept.0, kept.1.0) e s.ensures.value in
          rw (w.u-is, w.changed-is) (made.0, (made.1, λ h. s.ensures.wide (kept.1.1 h)))
      | in_default w ↦
          let e = sym (none-passed (rows_in a.rows.now) a.w.resources l.k a.w.local a.w.policy ends l.u)
          ∙ ap by (sym (said-none _ w.in_default.not-Some) ∙ at) in
          rw (w.u-is, w.changed-is) (repeat-more f l.k a.u.now l.u l.u kept.0 e, (kept.1.0, kept.1.1))
    ]

pub returns : goal.returns
unfolding pass_round_lem
returns c =
    let l = c.loop-k in
    let e : l.k ≡ length c.args.nodes.now / node_fields = omega arith in
    record { u_after = rw e at l.invariant.0; value = l.invariant.1.0; wide = l.invariant.1.1 }
