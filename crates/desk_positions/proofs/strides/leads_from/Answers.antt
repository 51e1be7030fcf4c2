use mathlib.Core.List.{[]}
use Rattle.usage.specs.Tables.{nodes_of}
use Rattle.desk_positions.specs.Positions.{stride_next}
use Rattle.desk_positions.specs.Moves.{step_of}
use Rattle.desk_positions.proofs.SettleLaws.{here}
use Rattle.desk_positions.proofs.NextLaws.{empty-tabled, no-row-none, none-no-row, lead-none, lead-more, lead-found}
use native.Mathlib.Omega.{arith}
use mathlib.Core.Path.{◌∙◌}
use borrow.Author.Rules.{rules}
use Rattle.desk_positions.proofs.strides.leads_from.Goals as goal

-- src/lib.rt:577:5
pub loop-i-init : goal.loop-i-init
loop-i-init c =
    let a = c.args in
    (search rules, λ ls ok w. lead-none (nodes_of a.nodes.now) (step_of a.step) ls)

-- src/lib.rt:582:13
pub returns-then-m-gt0 : goal.returns-then-m-gt0
returns-then-m-gt0 c = λ ls ok w.
    let a = c.args in
    let t = c.loop-i in
    let h = c.loop-i-test.true in
    let s = c.stride-m in
    let ns = nodes_of a.nodes.now in
    let step = step_of a.step in
    let x = here w t.i h in
    let g = s.ensures.grown x.position [] ok x.fine (c.load-r.ensures ∙ x.row) (empty-tabled _) in
    lead-found ns step ls t.i x.position x.place (λ e.
    let z = none-no-row (stride_next ns step x.position) g e in let q = c.if-m-gt0.true in omega arith)

-- src/lib.rt:577:5
pub loop-i-preserved : goal.loop-i-preserved
loop-i-preserved c =
    let a = c.args in
    let t = c.loop-i in
    let h = c.loop-i-test.true in
    let s = c.stride-m in (
      omega arith,
      λ ls ok w.
          let ns = nodes_of a.nodes.now in
          let step = step_of a.step in
          let x = here w t.i h in
          let g = s.ensures.grown x.position [] ok x.fine (c.load-r.ensures ∙ x.row) (empty-tabled _) in
          lead-more ns step ls t.i x.position x.place (t.invariant.1 ls ok w)
          (no-row-none (stride_next ns step x.position) g (let q = c.if-m-gt0.false in omega arith)),
    )
