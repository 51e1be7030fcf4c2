use native.Mathlib.Omega.{arith}
use mathlib.Core.Path.{refl, sym, ap, ◌∙◌}
use Prim.Native.Nat.{◌/◌, ◌<◌}
use lib.ListN.{length}
use lib.Seq.{length-sets}
use borrow.Author.Rules.{rules}
use Rattle.report_lines.specs.Decimal.{decimal}
use Rattle.report_lines.proofs.DecimalLaws.{decimal-one, decimal-more, length-one, length_more}
use Rattle.report_lines.proofs.PutLaws.{sets-snoc}
use Rattle.report_lines.proofs.+number.Goals as goal

pub bounds-out-at : goal.bounds-out-at
bounds-out-at t c = omega (arith, length-one c.args.n (omega arith))

pub returns-then-n-lt10 : goal.returns-then-n-lt10
returns-then-n-lt10 t c =
    let n = c.args.n in
    let l : n < 10 = omega arith in
    let e = length-one n l in
    record { value = omega arith; out_after = rw (decimal-one n l) refl }

pub number-last-requires : goal.number-last-requires
number-last-requires t c =
    let e = length_more c.args.n (omega arith) in (omega arith, omega arith)

pub bounds-out-last : goal.bounds-out-last
bounds-out-last t c =
    let n = c.args.n in
    let e = length_more n (omega arith) in
    let k = ap length c.number-last.ensures.out_after ∙ length-sets _ _ (decimal (n / 10)) in
    omega arith

pub overflow_add-result-2 : goal.overflow_add-result-2
overflow_add-result-2 t c =
    let n = c.args.n in
    let e = length_more n (omega arith) in
    let k = ap length c.number-last.ensures.out_after ∙ length-sets _ _ (decimal (n / 10)) in
    search rules

pub returns : goal.returns
returns t c =
    let n = c.args.n in
    let e = length_more n (omega arith) in
    let k = ap length c.number-last.ensures.out_after ∙ length-sets _ _ (decimal (n / 10)) in
    record {
      value = omega arith;
      out_after =
          rw (c.number-last.ensures.out_after, c.number-last.ensures.value, decimal-more n (omega arith))
          (sym (sets-snoc _ _ (decimal (n / 10)) _));
    }
