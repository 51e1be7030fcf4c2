use mathlib.Core.Path.{sym, ◌∙◌, subst}
use mathlib.Core.Bool.{Bool, ◌||◌, cond}
use mathlib.Core.List.{[]}
use Prim.Native.Nat.{ℕ}
use Rattle.checker_tables.proofs.EnterLaws.{enters-both}
use Rattle.checker_account.specs.Tables.{late_group, in_group_lem, halves, second_arrivals}
use Rattle.checker_account.specs.Tables.{begun}
use Rattle.checker_tables.specs.Search.{Enters}
use Rattle.checker_tables.proofs.arrivals.enter_second.Goals as goal

pub returns-then-waits : goal.returns-then-waits
unfolding second_arrivals
returns-then-waits c =
    let a = c.args in
    let g = a.from in
    let h = c.enter_halves-new in
    let d = c.enter_late-late in
    let late = halves a.b g.opened (in_group_lem 0 g.meaning) (begun a.t.now a.a (in_group_lem late_group g.meaning) g.states) [] in
    let first : Enters (halves a.b g.opened g.meaning (begun a.t.now a.a g.meaning g.states) []) a.u.now h.new.u
    h.result =
    subst (λ (v : ℕ). Enters (halves a.b g.opened g.meaning v []) a.u.now h.new.u h.result) c.begun.ensures h.ensures in
    subst (λ (w : Bool). Enters (halves a.b g.opened g.meaning (begun a.t.now a.a g.meaning g.states) (cond w late []))
    a.u.now d.new.u (h.result || d.result)) (sym c.if-waits.true ∙ c.waits.ensures)
    (enters-both (halves a.b g.opened g.meaning (begun a.t.now a.a g.meaning g.states) []) late a.u.now h.new.u
    d.new.u h.result d.result first d.ensures)

pub returns : goal.returns
unfolding second_arrivals
returns c =
    let a = c.args in
    let g = a.from in
    let h = c.enter_halves-new in
    let late = halves a.b g.opened (in_group_lem 0 g.meaning) (begun a.t.now a.a (in_group_lem late_group g.meaning) g.states) [] in
    subst (λ (w : Bool). Enters (halves a.b g.opened g.meaning (begun a.t.now a.a g.meaning g.states) (cond w late []))
    a.u.now h.new.u h.result) (sym c.if-waits.false ∙ c.waits.ensures)
    (subst (λ (v : ℕ). Enters (halves a.b g.opened g.meaning v []) a.u.now h.new.u h.result) c.begun.ensures
    h.ensures)
