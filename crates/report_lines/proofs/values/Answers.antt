use native.Mathlib.Omega.{arith}
use mathlib.Core.Path.{◌≡◌, sym, ap, ap₂, ◌∙◌}
use mathlib.Core.List.{List, ◌++◌}
use Prim.Native.Nat.{ℕ, ◌+◌, ◌≤◌, ◌<◌}
use mir.Val.{Fits}
use mir.Syntax.{w32}
use lib.ListN.{length, get_or, length-append}
use lib.Seq.{sets, length-sets}
use Rattle.report_lines.specs.Decimal.{decimal}
use Rattle.report_lines.specs.Lines.{three, values_line, values_room}
use Rattle.report_lines.proofs.PutLaws.{length_three, sets-append, six-threes}
use Rattle.report_lines.proofs.RowLaws.{ten-digits}
use Rattle.report_lines.proofs.FitLaws.{within-fits, end-within-fits, within-lacks, end-within-lacks}
use borrow.Author.Rules.{rules}
use Rattle.report_lines.proofs.values.Goals as goal

pub returns-then-saturating_sub-lt-VALUES_ROOM : goal.returns-then-saturating_sub-lt-VALUES_ROOM
returns-then-saturating_sub-lt-VALUES_ROOM c =
    let a = c.args in
    let l : length a.out.now < a.at + values_room = omega arith in
    record {
      value = sym (end-within-lacks values_room a.out.now a.at (values_line a.v) l);
      out_after = sym (within-lacks values_room a.out.now a.at (values_line a.v) l);
    }

pub three-fourth-requires : goal.three-fourth-requires
three-fourth-requires c =
    let a = c.args in
    let fits : (i : ℕ) → length (decimal (get_or a.v i 0)) ≤ 10 =
    λ i. (let h : Fits w32 (get_or a.v i 0) = search rules in ten-digits (get_or a.v i 0) h.fits) in
    omega (arith, fits 0, fits 1, fits 2)

pub three-requires : goal.three-requires
three-requires c =
    let a = c.args in
    let fits : (i : ℕ) → length (decimal (get_or a.v i 0)) ≤ 10 =
    λ i. (let h : Fits w32 (get_or a.v i 0) = search rules in ten-digits (get_or a.v i 0) h.fits) in
    let w = c.three-fourth.ensures in
    let first = three (get_or a.v 0 0) (get_or a.v 1 0) (get_or a.v 2 0) 32 in
    let e = length_three (get_or a.v 0 0) (get_or a.v 1 0) (get_or a.v 2 0) 32 in
    let k = ap length w.out_after ∙ length-sets a.out.now a.at first in
    omega (arith, fits 0, fits 1, fits 2, fits 3, fits 4, fits 5)

pub returns : goal.returns
returns c =
    let a = c.args in
    let first = three (get_or a.v 0 0) (get_or a.v 1 0) (get_or a.v 2 0) 32 in
    let second = three (get_or a.v 3 0) (get_or a.v 4 0) (get_or a.v 5 0) 10 in
    let w = c.three-fourth.ensures in
    let z = c.three.ensures in
    let six : length a.v ≡ 6 = search rules in
    let text : first ++ second ≡ values_line a.v = sym (six-threes a.v six) in
    let l : a.at + values_room ≤ length a.out.now = omega arith in record {
      value = z.value ∙ omega (arith, w.value, length-append first second) ∙ ap (λ (t : List ℕ). a.at + length t) text
          ∙ sym (end-within-fits values_room a.out.now a.at (values_line a.v) l);
      out_after = z.out_after ∙ ap₂ (λ (o : List ℕ) (i : ℕ). sets o i second) w.out_after w.value ∙ sym (sets-append a.out.now a.at first second)
          ∙ ap (sets a.out.now a.at) text ∙ sym (within-fits values_room a.out.now a.at (values_line a.v) l);
    }
