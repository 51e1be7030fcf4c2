use native.Mathlib.Omega.{arith}
use mathlib.Core.Path.{sym}
use Prim.Native.Nat.{◌+◌, ◌≤◌, ◌<◌}
use lib.ListN.{length}
use Rattle.report_lines.specs.Lines.{mark_row_lem}
use Rattle.report_lines.proofs.PutLaws.{length-mark, sets-mark}
use Rattle.report_lines.proofs.FitLaws.{put-fits, end_fits, put-lacks, end-lacks}
use Rattle.report_lines.proofs.mark_row.Goals as goal

pub returns-then-saturating_sub-needed : goal.returns-then-saturating_sub-needed
returns-then-saturating_sub-needed c =
    let a = c.args in
    let t = mark_row_lem a.policy a.action in
    let l : length a.out.now < a.at + length t = omega (arith, length-mark a.policy a.action) in
    record { value = sym (end-lacks a.out.now a.at t l); out_after = sym (put-lacks a.out.now a.at t l) }

pub field-requires : goal.field-requires
field-requires c = let k = c.field-next.ensures.out_len_unchanged in omega arith

pub returns : goal.returns
returns c =
    let a = c.args in
    let t = mark_row_lem a.policy a.action in
    let e = length-mark a.policy a.action in
    let f = c.field-next in
    let h = c.field in
    let l : a.at + length t ≤ length a.out.now = omega arith in
    let x = f.ensures.value in
    let y = h.ensures.value in record {
      value = rw (end_fits a.out.now a.at t l) (omega arith);
      out_after = rw (put-fits a.out.now a.at t l, h.ensures.out_after, f.ensures.out_after, f.ensures.value)
          (sym (sets-mark _ _ a.policy a.action));
    }
