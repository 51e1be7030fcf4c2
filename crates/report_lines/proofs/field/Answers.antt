use native.Mathlib.Omega.{arith}
use mathlib.Core.Path.{sym, ap, ◌∙◌}
use Prim.Native.Nat.{◌+◌, ◌<◌}
use lib.ListN.{length, set, length-set}
use lib.Seq.{length-sets}
use Rattle.report_lines.specs.Decimal.{digit_byte, decimal}
use Rattle.report_lines.proofs.DecimalLaws.{length-one}
use Rattle.report_lines.proofs.PutLaws.{sets-field, sets-digit}
use borrow.Author.Rules.{rules}
use Rattle.report_lines.proofs.field.Goals as goal

pub number-last-requires : goal.number-last-requires
number-last-requires c = omega arith

pub bounds-out-last : goal.bounds-out-last
bounds-out-last c =
    let k = ap length c.number-last.ensures.out_after
    ∙ length-sets _ _ (decimal c.args.n) in
    omega arith

pub overflow_add-result : goal.overflow_add-result
overflow_add-result c =
    let k = ap length c.number-last.ensures.out_after
    ∙ length-sets _ _ (decimal c.args.n) in
    search rules

pub returns-then-n-ge10 : goal.returns-then-n-ge10
returns-then-n-ge10 c =
    let a = c.args in
    let n = c.number-last in
    let k = ap length n.ensures.out_after ∙ length-sets _ _ (decimal a.n) in record {
      value = omega arith;
      out_after = rw (n.ensures.out_after, n.ensures.value) (sym (sets-field _ _ a.n a.end));
      out_len_unchanged = length-set n.new.out n.result a.end
          ∙ k;
    }

pub bounds-out-at-2 : goal.bounds-out-at-2
bounds-out-at-2 c =
    let a = c.args in
    let l = length-one a.n (omega arith) in
    let k = length-set a.out.now a.at (digit_byte a.n) in
    omega arith

pub returns : goal.returns
returns c =
    let a = c.args in
    let l : a.n < 10 = omega arith in
    let e = length-one a.n l in
    let k = length-set a.out.now a.at (digit_byte a.n) in
    let m = length-set (set a.out.now a.at (digit_byte a.n)) (a.at + 1) a.end in
    record { value = omega arith; out_after = sets-digit a.out.now a.at a.n a.end l; out_len_unchanged = m ∙ k }
