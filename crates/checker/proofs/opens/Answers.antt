use native.Mathlib.Omega.{arith}
use mathlib.Core.Path.{◌≡◌, refl, sym, ap, ◌∙◌}
use mathlib.Core.Bool.{Bool, false}
use mathlib.Core.Option.{Option}
use mathlib.Core.List.{List}
use Prim.Native.Nat.{ℕ, ◌/◌, ◌<◌}
use lib.ListN.{length}
use Rattle.usage.specs.Limits.{node_fields}
use Rattle.usage.specs.Outline.{Form, form_at}
use Rattle.usage.specs.Tables.{nodes_of}
use Rattle.usage.specs.Tests.{some_below}
use Rattle.automaton.proofs.MaskLaws.{some_at}
use Rattle.outline_nodes.proofs.SaidLaws.{form-at, said-some, said-none}
use Rattle.checker_account.proofs.CodeLaws.{none_more}
use Rattle.checker.specs.Code.{is_opening_lem, opens}
use Rattle.checker.proofs.opens.Goals as goal
use Rattle.checker.proofs.opens.Goals.{in-Some+else-is_opening, in_default}
use Rattle.checker.proofs.opens.Invariants.{opening}

-- what the code says of node k
here : (t : List ℕ) (p k : ℕ) {o : Option Form} {r : Bool} → k < length t / node_fields → o ≡ form_at (nodes_of t) k
    → r ≡ is_opening_lem p o → opening t p k ≡ r
here t p k l e g = sym (g ∙ ap (is_opening_lem p) (e ∙ form-at t k l))

pub loop-k-init : goal.loop-k-init
unfolding some_below
loop-k-init c = refl

pub returns-then-is_opening : goal.returns-then-is_opening
unfolding opens
returns-then-is_opening c =
    let a = c.args in
    let k = c.loop-k.k in
    let l = c.loop-k-test.true in
    sym (some_at (length a.nodes.now / node_fields) (opening a.nodes.now a.p) k l
    (here a.nodes.now a.p k l (sym (said-some c.in-Some.is) ∙ c.form.ensures) c.is_opening.ensures ∙ c.if-is_opening.true))

pub loop-k-preserved : goal.loop-k-preserved
loop-k-preserved c =
    let a = c.args in
    let k = c.loop-k.k in
    let l = c.loop-k-test.true in
    let e : opening a.nodes.now a.p k ≡ false =
    elim c.match-form.branch [
      | in-Some+else-is_opening w ↦ here a.nodes.now a.p k l (sym (said-some w.in-Some.is) ∙ c.form.ensures) w.is_opening.ensures
          ∙ w.if-is_opening.false
      | in_default w ↦ here a.nodes.now a.p k l (sym (said-none _ w.in_default.not-Some) ∙ c.form.ensures) refl
    ] in
    none_more (opening a.nodes.now a.p) k c.loop-k.invariant e

pub returns : goal.returns
unfolding opens
returns c =
    let l = c.loop-k in
    let e : l.k ≡ length c.args.nodes.now / node_fields = omega arith in
    sym (rw e at l.invariant)
