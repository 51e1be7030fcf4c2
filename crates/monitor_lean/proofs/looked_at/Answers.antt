use Prim.Native.Nat.{ℕ, ◌<◌}
use mathlib.Core.Path.{◌≡◌, refl, ap, ◌∙◌, subst}
use native.Mathlib.Omega.{arith}
use Rattle.usage.specs.Limits.{policies}
use Rattle.usage.specs.Past.{Step, event, opening}
use Rattle.usage.proofs.JudgeLaws.{step_fits, step_same}
use Rattle.automaton.specs.Mask.{has}
use Rattle.automaton.proofs.MaskLaws.{has-zero}
use Rattle.monitor_state.proofs.StepLaws.{step-said}
use Rattle.monitor_lean.specs.Lean.{marked}
use Rattle.monitor_lean.proofs.ByteLaws.{event-set, opening-set}
use borrow.Author.Rules.{rules}
use Rattle.monitor_lean.proofs.looked_at.Goals as goal

pub marked_at-requires : goal.marked_at-requires
marked_at-requires c =
    let f = step_fits c.args.step (event _ _) (step-said c.args.step c.in-Some.ensures c.in-Event.is) in
    omega (arith, f.0)

pub offset_bounds-marks-policy : goal.offset_bounds-marks-policy
offset_bounds-marks-policy c =
    let f : c.in-Opening.policy < policies = step_fits c.args.step (opening _) (step-said c.args.step c.in-Some.ensures c.in-Opening.is) in
    search (rules, f)

pub bounds-marks-policy : goal.bounds-marks-policy
bounds-marks-policy c =
    let f : c.in-Opening.policy < policies = step_fits c.args.step (opening _) (step-said c.args.step c.in-Some.ensures c.in-Opening.is) in
    omega (arith, f)

pub mark_bit-requires-clause-p_lt_policies : goal.mark_bit-requires-clause-p_lt_policies
mark_bit-requires-clause-p_lt_policies c = step_fits c.args.step (opening _) (step-said c.args.step c.in-Some.ensures c.in-Opening.is)

pub returns-in-Event : goal.returns-in-Event
returns-in-Event c read e p l =
    let a = c.args in
    subst (λ (s : Step). has c.marked_at.result p ≡ marked a.marks.now s p) (step_same (step-said a.step c.in-Some.ensures c.in-Event.is) e)
    (ap (λ (n : ℕ). has n p) c.marked_at.ensures ∙ event-set a.marks.now _ p l)

pub returns-in-Opening : goal.returns-in-Opening
returns-in-Opening c read e p l =
    let a = c.args in
    let is = step-said a.step c.in-Some.ensures c.in-Opening.is in
    subst (λ (s : Step). has c.mark_bit.result p ≡ marked a.marks.now s p) (step_same is e)
    (ap (λ (n : ℕ). has n p) c.mark_bit.ensures ∙ opening-set a.marks.now _ p (step_fits a.step (opening _) is) l _ refl)

pub returns-in-Closing : goal.returns-in-Closing
returns-in-Closing c read e p l =
    let a = c.args in
    subst (λ (s : Step). has 0 p ≡ marked a.marks.now s p) (step_same (step-said a.step c.in-Some.ensures c.in-Closing.is) e) (has-zero p)

pub returns-in-Retiring : goal.returns-in-Retiring
returns-in-Retiring c read e p l =
    let a = c.args in
    subst (λ (s : Step). has 0 p ≡ marked a.marks.now s p) (step_same (step-said a.step c.in-Some.ensures c.in-Retiring.is) e) (has-zero p)
