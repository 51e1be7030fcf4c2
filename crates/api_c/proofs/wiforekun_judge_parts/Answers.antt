-- The answer is the definition's, and the arrays hold what it says.
use mathlib.Core.Path.{sym, ap, ◌∙◌, subst}
use mathlib.Core.List.{List}
use lib.ListN.{get_or}
use mir.Val.{Fits}
use mir.Syntax.{w32}
use native.Mathlib.Omega.{arith}
use Prim.Native.Nat.{ℕ, ◌≤◌}
use Rattle.usage.specs.declared.RawStep.{RawStep}
use Rattle.monitor_state.specs.declared.Sizes.{Sizes}
use Rattle.monitor_state.specs.Judge.{judge_of}
use Rattle.monitor_state.specs.Lent.{lent_of, state_of}
use Rattle.api_c.specs.Choice.{choice_of}
use Rattle.api_c.specs.Codes.{code_of}
use Rattle.api_c.specs.Parts.{parts_of, most_number, held_in_lem}
use Rattle.api_c.proofs.PartLaws.{held-sizes, none-held, held-highest, choice-refused, held-refused, told-verdict}
use Rattle.api_c.proofs.PartLaws.{refused-left, taken-left, full-refusing}
use Rattle.api_c.proofs.PastLaws.{owed, refused-owed}
use borrow.Author.Rules.{rules}
use Rattle.api_c.proofs.wiforekun_judge_parts.Goals as goal
use Rattle.api_c.proofs.wiforekun_judge_parts.Goals.{else-not-is_refusal, then-not-is_refusal}

pub returns-then-local-gt-MOST_CHOICE : goal.returns-then-local-gt-MOST_CHOICE
returns-then-local-gt-MOST_CHOICE c =
    let a = c.args in
    let p = parts_of a.sets.now a.pairs.now a.possible.now a.created.now a.unclosed.now a.order.now a.numbers.now in
    let e = choice-refused judge_of a.edges.now a.local p (record { kind = a.kind; a = a.a; b = a.b }) c.if-local-gt-MOST_CHOICE.true in
    refused-owed a.edges.now a.local p _ _ _ e c.refused.ensures

pub returns-in_default : goal.returns-in_default
returns-in_default c =
    let a = c.args in
    let p = parts_of a.sets.now a.pairs.now a.possible.now a.created.now a.unclosed.now a.order.now a.numbers.now in
    let h = none-held p c.sizes_in.result c.sizes_in.ensures c.in_default.not-Some in
    let e = held-refused judge_of a.edges.now a.local p (record { kind = a.kind; a = a.a; b = a.b }) c.if-local-gt-MOST_CHOICE.false h in
    refused-owed a.edges.now a.local p _ _ _ e c.no_state.ensures

pub returns : goal.returns
unfolding held_in_lem
returns c =
    let a = c.args in
    let p = parts_of a.sets.now a.pairs.now a.possible.now a.created.now a.unclosed.now a.order.now a.numbers.now in
    let raw : RawStep = record { kind = a.kind; a = a.a; b = a.b } in
    let s = held-sizes p c.sizes_in.result c.sizes_in.ensures c.in-Some.sizes c.in-Some.is in
    let h = s.0 in
    let k = c.if-local-gt-MOST_CHOICE.false in
    let f = full-refusing a.edges.now a.local p raw in
    let j = c.judge_lent-t in
    let lent = lent_of a.sets.now a.pairs.now a.possible.now a.created.now a.unclosed.now a.order.now in
    let is = j.ensures ∙ ap (λ (z : Sizes). judge_of a.edges.now (choice_of a.local) (state_of lent z) raw) s.1 in
    let r = c.is_refusal in
    owed a.edges.now a.local p raw _ _
    (c.code.ensures ∙ ap code_of (told-verdict judge_of a.edges.now a.local p raw f k h j.result _ _ _ _ _ _ is))
    (elim c.if-not-is_refusal.branch [
      | then-not-is_refusal w ↦ ap (λ (l : List ℕ). parts_of j.new.sets j.new.pairs j.new.possible j.new.created
          j.new.unclosed j.new.order l) (w.numbers-is ∙ w.numbers_of.ensures)
          ∙ taken-left judge_of a.edges.now a.local p raw f k h j.result _ _ _ _ _ _ is (sym r.ensures ∙ w.if-not-is_refusal.true)
      | else-not-is_refusal w ↦ ap (λ (l : List ℕ). parts_of j.new.sets j.new.pairs j.new.possible j.new.created
          j.new.unclosed j.new.order l) w.numbers-is
          ∙ refused-left judge_of a.edges.now a.local p raw f k h j.result _ _ _ _ _ _
          is (sym r.ensures ∙ w.if-not-is_refusal.false)
    ])
    (λ held. elim c.if-not-is_refusal.branch [
      | then-not-is_refusal w ↦ let fits : Fits w32 j.result.sizes.highest = search rules in
          subst (λ (l : List ℕ). get_or l 3 0 ≤ most_number) (sym (w.numbers-is ∙ w.numbers_of.ensures)) (omega (arith, fits.fits))
      | else-not-is_refusal w ↦ subst (λ (l : List ℕ). get_or l 3 0 ≤ most_number) (sym w.numbers-is) (held-highest p held)
    ])
