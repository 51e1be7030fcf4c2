use native.Mathlib.Omega.{arith}
use mathlib.Core.Path.{refl}
use Rattle.report_desk.proofs.PrintedLaws.{going-none, going-length, going_on, gone}
use borrow.Author.Rules.{rules}
use Rattle.report_desk.proofs.step_rows.Goals as goal

pub loop-i-init : goal.loop-i-init
loop-i-init c = going-none _ _ _ _ _

pub called-next-requires : goal.called-next-requires
called-next-requires c =
    let p = c.requires in
    let g = c.loop-i.invariant in
    let s = g.short in
    let t = g.told in
    let l = going-length g in
    let h = c.loop-i-test.true in
    record { line_bound = omega arith; longest_desk_row_in_bounds = omega arith }

pub loop-i-preserved : goal.loop-i-preserved
loop-i-preserved c =
    let k = c.step-code in
    let w = c.called-next in
    going_on c.loop-i.invariant k.ensures (omega arith) w.ensures.code_len_bound w.ensures.value w.ensures.out_after
    c.loop-i-test.true

pub shape_of-out : goal.shape_of-out
shape_of-out c = let l = going-length c.loop-i.invariant in search rules

pub returns : goal.returns
returns c =
    let p = c.requires in
    gone c.loop-i.invariant refl c.loop-i-test.false (omega arith)
