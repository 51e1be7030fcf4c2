use native.Mathlib.Omega.{arith}
use mathlib.Core.Path.{sym}
use Prim.Native.Nat.{◌+◌, ◌≤◌, ◌<◌}
use lib.ListN.{length}
use Rattle.report_lines.specs.Lines.{row, numbered_row_lem}
use Rattle.report_lines.proofs.PutLaws.{length-field, length-row, length-numbered, sets-numbered}
use Rattle.report_lines.proofs.FitLaws.{put-fits, end_fits, put-lacks, end-lacks, stored_at}
use Rattle.report_lines.proofs.numbered_row.Goals as goal

pub returns-then-saturating_sub-needed : goal.returns-then-saturating_sub-needed
returns-then-saturating_sub-needed c =
    let a = c.args in
    let t = numbered_row_lem a.number a.kind a.a a.b in
    let l : length a.out.now < a.at + length t = omega (arith, length-numbered a.number a.kind a.a a.b, length-field a.number 32, length-row a.kind a.a a.b) in
    record { value = sym (end-lacks a.out.now a.at t l); out_after = sym (put-lacks a.out.now a.at t l) }

pub returns : goal.returns
returns c =
    let a = c.args in
    let t = numbered_row_lem a.number a.kind a.a a.b in
    let e = length-numbered a.number a.kind a.a a.b in
    let g = length-field a.number 32 in
    let d = length-row a.kind a.a a.b in
    let f = c.field-next in
    let h = c.row in
    let k = f.ensures.out_len_unchanged in
    let i = f.ensures.value in
    let l : a.at + length t ≤ length a.out.now = omega arith in
    let z = stored_at _ f.result (row a.kind a.a a.b) (omega arith) h.ensures.value h.ensures.out_after in
    let x = z.0 in record {
      value = rw (end_fits a.out.now a.at t l) (omega arith);
      out_after = rw (put-fits a.out.now a.at t l, z.1, f.ensures.out_after, f.ensures.value)
          (sym (sets-numbered _ _ a.number a.kind a.a a.b));
    }
