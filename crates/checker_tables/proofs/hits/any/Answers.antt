use mathlib.Core.Path.{◌≡◌, refl, sym, ap, ◌∙◌}
use Prim.Native.Nat.{◌/◌}
use native.Mathlib.Omega.{arith}
use lib.ListN.{length}
use mathlib.Core.Option.{Option}
use Rattle.usage.specs.Limits.{node_fields}
use Rattle.usage.specs.Outline.{Form}
use Rattle.usage.specs.Tests.{some_below}
use Rattle.outline_nodes.proofs.SaidLaws.{form-at, said-some, said-none}
use Rattle.automaton.proofs.MaskLaws.{some_at}
use Rattle.checker_account.specs.Tables.{rows_in}
use Rattle.checker_account.specs.Filling.{hit_node_lem, hit_any}
use Rattle.checker_account.proofs.CodeLaws.{none_more}
use Rattle.checker_tables.proofs.FitLaws.{form-small}
use Rattle.checker_tables.proofs.hits.any.Goals as goal
use Rattle.checker_tables.proofs.hits.any.Goals.{in-Some+else-hit_node, in_default}
use Rattle.checker_tables.proofs.NoneLaws.{none-hits}
use mathlib.Core.Bool.{Bool, false}
use Rattle.checker_tables.proofs.hits.any.Invariants.{test}

pub loop-k-init : goal.loop-k-init
unfolding some_below
loop-k-init c =
    refl

pub invariant_of-s : goal.invariant_of-s
invariant_of-s c =
    let k = c.loop-k.k in
    let h = c.loop-k-test.true in
    let fit = c.requires.nodes_fit in
    let is = sym (said-some c.in-Some.is) ∙ c.form.ensures ∙ form-at c.args.nodes.now k h in
    record { node_in = omega (arith, fit.few); form_small = form-small fit k h _ is }

pub returns-then-hit_node : goal.returns-then-hit_node
unfolding hit_any
returns-then-hit_node c =
    let a = c.args in
    let k = c.loop-k.k in
    let h = c.loop-k-test.true in
    let f = test a.u.now a.nodes.now a.rows.now a.w.local a.w.policy a.w.resources in
    let s : c.hit_node.result ≡ f k = c.hit_node.ensures
    ∙ ap (λ (d : Option Form). hit_node_lem a.w.local (rows_in a.rows.now) a.w.policy a.w.resources a.u.now k d)
    (sym (said-some c.in-Some.is) ∙ c.form.ensures ∙ form-at a.nodes.now k h) in
    sym (some_at (length a.nodes.now / node_fields) f k h (sym s ∙ c.if-hit_node.true))

pub loop-k-preserved : goal.loop-k-preserved
loop-k-preserved c =
    let a = c.args in
    let k = c.loop-k.k in
    let f = test a.u.now a.nodes.now a.rows.now a.w.local a.w.policy a.w.resources in
    let by : Option Form → Bool = λ d. hit_node_lem a.w.local (rows_in a.rows.now) a.w.policy a.w.resources a.u.now k d in
    let at = c.form.ensures ∙ form-at a.nodes.now k c.loop-k-test.true in
    let s : f k ≡ false =
    elim c.match-form.branch [ in-Some+else-hit_node w ↦ sym (w.hit_node.ensures ∙ ap by (sym (said-some w.in-Some.is) ∙ at)) ∙ w.if-hit_node.false | in_default w ↦ ap by (sym (sym (said-none _ w.in_default.not-Some) ∙ at)) ∙ none-hits (rows_in a.rows.now) a.w.resources k a.w.local a.w.policy a.u.now ] in
    none_more f k c.loop-k.invariant s

pub returns : goal.returns
unfolding hit_any
returns c =
    let l = c.loop-k in
    let e : l.k ≡ length c.args.nodes.now / node_fields = omega arith in
    sym (rw e at l.invariant)
