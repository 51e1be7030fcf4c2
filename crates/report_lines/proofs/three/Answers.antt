use native.Mathlib.Omega.{arith}
use mathlib.Core.Path.{sym}
use Rattle.report_lines.proofs.PutLaws.{length_three, sets-three}
use Rattle.report_lines.proofs.three.Goals as goal

pub field-second-requires : goal.field-second-requires
field-second-requires c = omega arith

pub field-third-requires : goal.field-third-requires
field-third-requires c = let k = c.field-second.ensures.out_len_unchanged in omega arith

pub field-requires : goal.field-requires
field-requires c =
    let k = c.field-second.ensures.out_len_unchanged in
    let m = c.field-third.ensures.out_len_unchanged in
    omega arith

pub returns : goal.returns
returns c =
    let a = c.args in
    let e = length_three a.a a.b a.c a.end in
    let f = c.field-second in
    let g = c.field-third in
    let h = c.field in record {
      value = omega arith;
      out_after = rw (h.ensures.out_after, g.ensures.out_after, g.ensures.value, f.ensures.out_after, f.ensures.value)
          (sym (sets-three _ _ a.a a.b a.c a.end));
    }
