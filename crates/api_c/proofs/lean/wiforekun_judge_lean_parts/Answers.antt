-- The answer is the definition's, and the arrays hold what it says.
use mathlib.Core.Path.{sym, ap, ◌∙◌}
use mathlib.Core.List.{List}
use Prim.Native.Nat.{ℕ}
use Rattle.usage.specs.declared.RawStep.{RawStep}
use Rattle.monitor_state.proofs.LookedLaws.{sized-by}
use Rattle.monitor_state.specs.declared.Sizes.{Sizes}
use Rattle.monitor_state.specs.Lent.{lent_of, state_of}
use Rattle.monitor_lean.specs.Lean.{marked, lean_of, lean_sized}
use Rattle.api_c.specs.Choice.{choice_of}
use Rattle.api_c.specs.Codes.{code_of}
use Rattle.api_c.specs.Parts.{parts_of, held_in_lem}
use Rattle.api_c.proofs.PartLaws.{held-sizes, none-held, choice-refused, held-refused, told-verdict}
use Rattle.api_c.proofs.PartLaws.{refused-left, taken-left, looked-refusing}
use Rattle.api_c.proofs.LeanLaws.{parts-told, refused-told}
use Rattle.api_c.proofs.lean.wiforekun_judge_lean_parts.Goals as goal
use Rattle.api_c.proofs.lean.wiforekun_judge_lean_parts.Goals.{else-not-is_refusal, then-not-is_refusal}

pub returns-then-local-gt-MOST_CHOICE : goal.returns-then-local-gt-MOST_CHOICE
returns-then-local-gt-MOST_CHOICE c =
    let a = c.args in
    let p = parts_of a.sets.now a.pairs.now a.possible.now a.created.now a.unclosed.now a.order.now a.numbers.now in
    let e = choice-refused (lean_of a.marks.now) a.edges.now a.local p (record { kind = a.kind; a = a.a; b = a.b }) c.if-local-gt-MOST_CHOICE.true in
    refused-told a.marks.now a.edges.now a.local p _ _ _ e c.refused.ensures

pub returns-in_default : goal.returns-in_default
returns-in_default c =
    let a = c.args in
    let p = parts_of a.sets.now a.pairs.now a.possible.now a.created.now a.unclosed.now a.order.now a.numbers.now in
    let h = none-held p c.sizes_in.result c.sizes_in.ensures c.in_default.not-Some in
    let e = held-refused (lean_of a.marks.now) a.edges.now a.local p (record { kind = a.kind; a = a.a; b = a.b }) c.if-local-gt-MOST_CHOICE.false h in
    refused-told a.marks.now a.edges.now a.local p _ _ _ e c.no_state.ensures

pub returns : goal.returns
unfolding held_in_lem
returns c =
    let a = c.args in
    let p = parts_of a.sets.now a.pairs.now a.possible.now a.created.now a.unclosed.now a.order.now a.numbers.now in
    let raw : RawStep = record { kind = a.kind; a = a.a; b = a.b } in
    let s = held-sizes p c.sizes_in.result c.sizes_in.ensures c.in-Some.sizes c.in-Some.is in
    let h = s.0 in
    let k = c.if-local-gt-MOST_CHOICE.false in
    let f = looked-refusing (marked a.marks.now) a.edges.now a.local p raw in
    let j = c.judge_lean-t in
    let lent = lent_of a.sets.now a.pairs.now a.possible.now a.created.now a.unclosed.now a.order.now in
    let is = j.ensures.order_after
    ∙ ap (λ (z : Sizes). lean_sized a.marks.now a.edges.now (choice_of a.local) (state_of lent z) raw) s.1
    ∙ sized-by (marked a.marks.now) a.edges.now (choice_of a.local) (held_in_lem p) raw c.told-pairs in
    let r = c.is_refusal in
    parts-told a.marks.now a.edges.now a.local p raw _ _
    (c.code.ensures ∙ ap code_of (told-verdict (lean_of a.marks.now) a.edges.now a.local p raw f k h j.result _ _ _ _ _ _ is))
    (elim c.if-not-is_refusal.branch [
      | then-not-is_refusal w ↦ ap (λ (l : List ℕ). parts_of j.new.sets j.new.pairs j.new.possible j.new.created
          j.new.unclosed j.new.order l) (w.numbers-is ∙ w.numbers_of.ensures)
          ∙ taken-left (lean_of a.marks.now) a.edges.now a.local p raw f k h j.result _ _ _ _ _ _ is (sym r.ensures ∙ w.if-not-is_refusal.true)
      | else-not-is_refusal w ↦ ap (λ (l : List ℕ). parts_of j.new.sets j.new.pairs j.new.possible j.new.created
          j.new.unclosed j.new.order l) w.numbers-is
          ∙ refused-left (lean_of a.marks.now) a.edges.now a.local p raw f k h j.result _ _ _ _ _ _
          is (sym r.ensures ∙ w.if-not-is_refusal.false)
    ])
