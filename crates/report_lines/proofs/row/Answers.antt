use native.Mathlib.Omega.{arith}
use mathlib.Core.Path.{sym, ◌∙◌}
use Prim.Native.Nat.{◌+◌, ◌≤◌, ◌<◌}
use lib.ListN.{length}
use Rattle.report_lines.specs.Lines.{row}
use Rattle.report_lines.proofs.PutLaws.{length-row}
use Rattle.report_lines.proofs.FitLaws.{put-fits, end_fits, put-lacks, end-lacks}
use Rattle.report_lines.proofs.row.Goals as goal

pub returns-then-saturating_sub-needed : goal.returns-then-saturating_sub-needed
returns-then-saturating_sub-needed c =
    let a = c.args in
    let t = row a.line a.answer a.detail in
    let l : length a.out.now < a.at + length t = omega (arith, length-row a.line a.answer a.detail) in
    record { value = sym (end-lacks a.out.now a.at t l); out_after = sym (put-lacks a.out.now a.at t l) }

pub three-requires : goal.three-requires
three-requires c = omega arith

pub returns : goal.returns
unfolding row
returns c =
    let a = c.args in
    let t = row a.line a.answer a.detail in
    let e = length-row a.line a.answer a.detail in
    let w = c.three.ensures in
    let l : a.at + length t ≤ length a.out.now = omega arith in
    record { value = w.value ∙ sym (end_fits a.out.now a.at t l); out_after = w.out_after ∙ sym (put-fits a.out.now a.at t l) }
