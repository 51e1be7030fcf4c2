use mathlib.Core.Path.{sym, ◌∙◌}
use native.Mathlib.Omega.{arith}
use Rattle.std.proofs.lemmas.Result.{err_from_is_err_and}
use Rattle.sheet_grammar.specs.Grammar.{plus, dot}
use Rattle.sheet_grammar.proofs.RangeLaws.{below_more}
use Rattle.sheet_grammar.proofs.RuleLaws.{opens-past}
use Rattle.sheet_expression.specs.Code.{bracket_of}
use Rattle.sheet_expression.proofs.TextLaws.{is-in}
use Rattle.sheet_expression.proofs.GrowingLaws.{
  far,
  label-ok,
  going-first,
  first-refused,
  going_done,
  next-refused,
  going_next,
  item-wrong,
  item-atom,
  item-deep,
  inner-refused,
  inner-end,
  item-bracket,
  bracket-small,
}
use Rattle.sheet_expression.proofs.phrases.+choice_item_sequence.Goals as goal

pub choice-returns-in_err-r : goal.choice-returns-in_err-r
choice-returns-in_err-r t c =
    let a = c.args in
    let p = err_from_is_err_and c.from_residual.result c.from_residual.ensures.1 in
    rw (p.1, p.2) (first-refused plus a.text.now a.from.now.at a.nest a.loops a.from.now.nodes c.in_err-r.ensures)

pub choice-loop-loops-init : goal.choice-loop-loops-init
choice-loop-loops-init t c =
    let a = c.args in
    going-first plus a.text.now a.from.now.at a.nest a.loops a.from.now.nodes c.in_ok-r.ensures

pub choice-sequence-requires-in-loop-loops : goal.choice-sequence-requires-in-loop-loops
choice-sequence-requires-in-loop-loops t c =
    let a = c.args in
    let p = c.requires in
    let q = p.few in
    let r = c.loop-loops.r in
    let g = c.loop-loops.invariant in
    let u = g.past in
    let v = g.within in
    let w = g.grown.count in
    let i = is-in a.text.now r.at 43 (sym c.is_at.ensures ∙ c.loop-loops-test.true) in (
      omega arith,
      record {
        short = p.short;
        within = omega arith;
        few = omega arith;
        below = below_more p.below (omega arith);
      },
    )

pub choice-returns-in_err-next : goal.choice-returns-in_err-next
choice-returns-in_err-next t c =
    let a = c.args in
    let p = err_from_is_err_and c.from_residual-in_err-next.result c.from_residual-in_err-next.ensures.1 in
    rw (p.1, p.2) (next-refused plus a.text.now a.from.now.at a.nest a.loops a.from.now.nodes c.loop-loops.invariant
    (sym c.is_at.ensures ∙ c.loop-loops-test.true) c.in_err-next.ensures)

pub choice-join-requires : goal.choice-join-requires
choice-join-requires t c =
    let p = c.requires in
    let q₀ = p.short in
    let q₁ = p.few in
    let g = c.loop-loops.invariant in
    let u = g.past in
    let w = g.grown.count in
    let y = far c.in_ok-next.ensures in
    let y₁ = y.count in
    let y₂ = y.past in
    let y₃ = y.within in
    record { count_le_longest_sheet = omega arith; start_le_count = omega arith; right_le_count = omega arith }

pub choice-loop-loops-smaller : goal.choice-loop-loops-smaller
choice-loop-loops-smaller t c =
    let a = c.args in
    let r = c.loop-loops.r in
    let i = is-in a.text.now r.at 43 (sym c.is_at.ensures ∙ c.loop-loops-test.true) in
    let y = far c.in_ok-next.ensures in
    let y₂ = y.past in
    omega arith

pub choice-loop-loops-preserved : goal.choice-loop-loops-preserved
choice-loop-loops-preserved t c =
    let a = c.args in
    going_next plus a.text.now a.from.now.at a.nest a.loops a.from.now.nodes c.loop-loops.invariant
    (sym c.is_at.ensures ∙ c.loop-loops-test.true) c.requires.below c.in_ok-next.ensures c.join.ensures

pub choice-returns : goal.choice-returns
choice-returns t c =
    let a = c.args in
    going_done plus a.text.now a.from.now.at a.nest a.loops a.from.now.nodes c.loop-loops.invariant
    (sym c.is_at.ensures ∙ c.loop-loops-test.false)

pub sequence-returns-in_err-r : goal.sequence-returns-in_err-r
sequence-returns-in_err-r t c =
    let a = c.args in
    let p = err_from_is_err_and c.from_residual.result c.from_residual.ensures.1 in
    rw (p.1, p.2) (first-refused dot a.text.now a.from.now.at a.nest a.loops a.from.now.nodes c.in_err-r.ensures)

pub sequence-loop-loops-init : goal.sequence-loop-loops-init
sequence-loop-loops-init t c =
    let a = c.args in
    going-first dot a.text.now a.from.now.at a.nest a.loops a.from.now.nodes c.in_ok-r.ensures

pub sequence-item-requires-in-loop-loops : goal.sequence-item-requires-in-loop-loops
sequence-item-requires-in-loop-loops t c =
    let a = c.args in
    let p = c.requires in
    let q = p.few in
    let r = c.loop-loops.r in
    let g = c.loop-loops.invariant in
    let u = g.past in
    let v = g.within in
    let w = g.grown.count in
    let i = is-in a.text.now r.at 46 (sym c.is_at.ensures ∙ c.loop-loops-test.true) in (
      omega arith,
      record {
        short = p.short;
        within = omega arith;
        few = omega arith;
        below = below_more p.below (omega arith);
      },
    )

pub sequence-returns-in_err-next : goal.sequence-returns-in_err-next
sequence-returns-in_err-next t c =
    let a = c.args in
    let p = err_from_is_err_and c.from_residual-in_err-next.result c.from_residual-in_err-next.ensures.1 in
    rw (p.1, p.2) (next-refused dot a.text.now a.from.now.at a.nest a.loops a.from.now.nodes c.loop-loops.invariant
    (sym c.is_at.ensures ∙ c.loop-loops-test.true) c.in_err-next.ensures)

pub sequence-join-requires : goal.sequence-join-requires
sequence-join-requires t c =
    let p = c.requires in
    let q₀ = p.short in
    let q₁ = p.few in
    let g = c.loop-loops.invariant in
    let u = g.past in
    let w = g.grown.count in
    let y = far c.in_ok-next.ensures in
    let y₁ = y.count in
    let y₂ = y.past in
    let y₃ = y.within in
    record { count_le_longest_sheet = omega arith; start_le_count = omega arith; right_le_count = omega arith }

pub sequence-loop-loops-smaller : goal.sequence-loop-loops-smaller
sequence-loop-loops-smaller t c =
    let a = c.args in
    let r = c.loop-loops.r in
    let i = is-in a.text.now r.at 46 (sym c.is_at.ensures ∙ c.loop-loops-test.true) in
    let y = far c.in_ok-next.ensures in
    let y₂ = y.past in
    omega arith

pub sequence-loop-loops-preserved : goal.sequence-loop-loops-preserved
sequence-loop-loops-preserved t c =
    let a = c.args in
    going_next dot a.text.now a.from.now.at a.nest a.loops a.from.now.nodes c.loop-loops.invariant
    (sym c.is_at.ensures ∙ c.loop-loops-test.true) c.requires.below c.in_ok-next.ensures c.join.ensures

pub sequence-returns : goal.sequence-returns
sequence-returns t c =
    let a = c.args in
    going_done dot a.text.now a.from.now.at a.nest a.loops a.from.now.nodes c.loop-loops.invariant
    (sym c.is_at.ensures ∙ c.loop-loops-test.false)

pub item-returns-in-Err : goal.item-returns-in-Err
item-returns-in-Err t c = let a = c.args in item-wrong a.text.now a.from.now.at a.nest a.loops a.from.now.nodes (sym c.in-Err.ensures)

pub item-returns-in-Ok-Atom : goal.item-returns-in-Ok-Atom
item-returns-in-Ok-Atom t c =
    let a = c.args in
    item-atom a.text.now a.from.now.at a.nest a.loops a.from.now.nodes (sym (rw c.in-Ok-Atom.field-0-is at c.in-Ok-Atom.ensures))
    c.leaf_node-nodes.ensures

pub item-returns-then-nest-eq0 : goal.item-returns-then-nest-eq0
item-returns-then-nest-eq0 t c =
    let a = c.args in
    let x = rw c.in-Ok-Opens.field-0-is at c.in-Ok-Opens.ensures in
    item-deep a.text.now a.from.now.at a.nest a.loops a.from.now.nodes (sym x) c.if-nest-eq0.true

pub item-overflow_add-inner : goal.item-overflow_add-inner
item-overflow_add-inner t c =
    let a = c.args in
    let x = rw c.in-Ok-Opens.field-0-is at c.in-Ok-Opens.ensures in
    omega (arith, opens-past a.text.now a.from.now.at (sym x))

pub item-choice-requires : goal.item-choice-requires
item-choice-requires t c =
    let a = c.args in
    let p = c.requires in
    let q = p.few in
    let x = rw c.in-Ok-Opens.field-0-is at c.in-Ok-Opens.ensures in
    let y = opens-past a.text.now a.from.now.at (sym x) in
    let y₀ = y.0 in
    let y₁ = y.1 in
    let o = c.opened.ensures.count in
    let m = bracket-small (bracket_of c.in-Ok-Opens.bracket) a.from.now.nodes.count in (
      omega arith,
      record {
        short = p.short;
        within = omega arith;
        few = omega arith;
        below = below_more (c.bound-around.ensures.below p.below) (omega arith);
      },
    )

pub item-returns-in_err-r-in-Ok-Opens : goal.item-returns-in_err-r-in-Ok-Opens
item-returns-in_err-r-in-Ok-Opens t c =
    let a = c.args in
    let x = rw c.in-Ok-Opens.field-0-is at c.in-Ok-Opens.ensures in
    let p = err_from_is_err_and c.from_residual.result c.from_residual.ensures.1 in
    rw (p.1, p.2) (inner-refused a.text.now a.from.now.at a.nest a.loops a.from.now.nodes (bracket_of c.in-Ok-Opens.bracket) c.in-Ok-Opens.place
    (sym x) c.if-nest-eq0.false c.bound-around.result c.opened.result c.in_err-r-in-Ok-Opens.ensures)

pub item-closed-requires : goal.item-closed-requires
item-closed-requires t c =
    let a = c.args in
    let x = rw c.in-Ok-Opens.field-0-is at c.in-Ok-Opens.ensures in
    inner-end a.text.now a.from.now.at a.nest a.loops a.from.now.nodes (bracket_of c.in-Ok-Opens.bracket) c.in-Ok-Opens.place (sym x)
    c.if-nest-eq0.false c.bound-around.result c.opened.result _ c.in_ok-r-in-Ok-Opens.ensures

pub item-returns-in_ok-r-in-Ok-Opens : goal.item-returns-in_ok-r-in-Ok-Opens
item-returns-in_ok-r-in-Ok-Opens t c =
    let a = c.args in
    let b = bracket_of c.in-Ok-Opens.bracket in
    let i = c.in-Ok-Opens.place in
    let x = rw c.in-Ok-Opens.field-0-is at c.in-Ok-Opens.ensures in
    item-bracket a.text.now a.from.now.at a.nest a.loops a.from.now.nodes b i (sym x) c.if-nest-eq0.false c.bound-around.result c.opened.result _
    c.in_ok-r-in-Ok-Opens.ensures c.opened.ensures c.bound-around.ensures (label-ok a.text.now a.from.now.at i b (sym x)) c.closed.ensures
