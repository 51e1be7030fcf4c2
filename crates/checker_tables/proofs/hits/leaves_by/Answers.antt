use mathlib.Core.Path.{ap, ap₂, ◌∙◌}
use mathlib.Core.Bool.{true, false}
use Prim.Native.Nat.{ℕ}
use lib.ListN.{get_or}
use lib.Bits.{bit_or}
use lib.Dec.{eqb}
use Rattle.checker_account.specs.Account.{others}
use Rattle.checker_account.specs.Tables.{over, row_on, rows_in, first_created_lem, second_created_lem, place, leaves}
use Rattle.checker_tables.proofs.OtherLaws.{no_step}
use Rattle.checker_tables.proofs.ResetLaws.{opened-if}
use Rattle.checker_tables.proofs.hits.leaves_by.Goals as goal

pub returns-in-OnStatic : goal.returns-in-OnStatic
unfolding leaves
returns-in-OnStatic c =
    let a = c.args in
    rw c.in-OnStatic.is
    (c.moved_set.ensures ∙ ap (over (row_on (rows_in a.s.rows.now) a.s.resources a.s.node c.in-OnStatic.resource)) c.states_at-v.ensures)

pub returns-in-OnName : goal.returns-in-OnName
unfolding leaves
returns-in-OnName c =
    let a = c.args in
    rw c.in-OnName.is
    (c.moved_set-in-OnName.ensures
    ∙ ap₂ (λ (r v : ℕ). over (row_on (rows_in a.s.rows.now) a.s.resources a.s.node r) v) c.meant-r.ensures c.states_at-v.ensures)

pub returns-in-Fresh : goal.returns-in-Fresh
unfolding leaves
returns-in-Fresh c =
    let a = c.args in
    let rows = rows_in a.s.rows.now in
    let x = a.s.resources in
    rw c.in-Fresh.is
    (c.created.ensures
    ∙ ap (λ (v : ℕ). bit_or (bit_or (over (row_on rows x a.s.node others) v) (first_created_lem rows x a.s.node a.c v)) (second_created_lem rows x a.s.node a.c v))
    c.states_at-v.ensures)

pub returns-in-Sandbox : goal.returns-in-Sandbox
unfolding leaves
returns-in-Sandbox c =
    let a = c.args in
    rw c.in-Sandbox.is
    (c.opened.ensures
    ∙ opened-if a.w.local (eqb c.in-Sandbox.policy a.w.policy) (get_or a.u.now (place a.s.node false a.c) 0)
    (get_or a.u.now (place a.s.node true a.c) 0))

pub returns-in_default : goal.returns-in_default
returns-in_default c =
    let a = c.args in
    no_step a.w.local (rows_in a.s.rows.now) a.w.policy a.s.resources a.u.now a.s.node a.c a.s.form c.in_default.not-OnStatic c.in_default.not-OnName c.in_default.not-Fresh c.in_default.not-Sandbox
