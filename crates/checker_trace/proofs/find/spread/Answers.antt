use native.Mathlib.Numerals.{add-one}
use mathlib.Core.Path.{ap₂}
use mathlib.Core.Bool.{Bool}
use lib.Bits.{bit_or, or_zero_r}
use Rattle.outline_nodes.proofs.SaidLaws.{said-some, said-none}
use Rattle.automaton.specs.Mask.{has}
use Rattle.checker_lengths.specs.Filling.{form_here}
use Rattle.checker_trace.specs.Code.{spread_to, join_if, leads_from}
use mathlib.Core.Path.{◌≡◌, refl, sym, ap, ◌∙◌}
use Prim.Native.Nat.{ℕ}
use Rattle.checker_trace.proofs.find.spread.Goals as goal
use Rattle.checker_trace.proofs.find.spread.Goals.{else-has, then-has+in-Some as further, then-has+in_default as formless}

pub loop-k-init : goal.loop-k-init
unfolding spread_to
loop-k-init c = refl

pub loop-k-preserved : goal.loop-k-preserved
unfolding spread_to join_if
loop-k-preserved c =
    let a = c.args in
    let l = c.loop-k in
    let u = spread_to a.t.now a.nodes.now a.e l.k a.s in
    let h : has u l.k ≡ c.has.result = sym (c.has.ensures ∙ ap (λ (v : ℕ). has v l.k) l.invariant) in
    rw (add-one l.k)
    (elim c.if-has.branch [
      | further v ↦ v.r-is
          ∙ ap₂ bit_or l.invariant (v.leads-r.ensures ∙ ap (leads_from a.t.now a.e) (sym (said-some v.in-Some.is) ∙ v.form.ensures))
          ∙ sym (ap (λ (b : Bool). join_if b u (leads_from a.t.now a.e (form_here a.nodes.now l.k))) (h ∙ v.if-has.true))
      | formless v ↦ v.r-is ∙ l.invariant ∙ sym (or_zero_r u)
          ∙ ap (bit_or u) (ap (leads_from a.t.now a.e) (sym (said-none v.form.result v.in_default.not-Some) ∙ v.form.ensures))
          ∙ sym (ap (λ (b : Bool). join_if b u (leads_from a.t.now a.e (form_here a.nodes.now l.k))) (h ∙ v.if-has.true))
      | else-has v ↦ v.r-is ∙ l.invariant ∙ sym (ap (λ (b : Bool). join_if b u (leads_from a.t.now a.e (form_here a.nodes.now l.k)))
          (h ∙ v.if-has.false))
    ])
