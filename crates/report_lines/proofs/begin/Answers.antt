use Rattle.report_lines.proofs.FitLaws.{put-fits, end_fits, put-lacks, end-lacks}
use Rattle.report_lines.proofs.PutLaws.{sets-front}
use native.Mathlib.Omega.{arith}
use mathlib.Core.Path.{sym, ap, ◌∙◌}
use mathlib.Core.List.{List, ◌++◌}
use Prim.Native.Nat.{ℕ, ◌+◌, ◌≤◌, ◌<◌}
use lib.ListN.{length, drop}
use Rattle.report_lines.proofs.begin.Goals as goal

pub returns-then-out-text : goal.returns-then-out-text
returns-then-out-text c =
    let b = c.args.out.now in
    let t = c.args.text.now in
    let l : length b < 0 + length t = omega arith in
    record { value = sym (end-lacks b 0 t l); out_after = sym (put-lacks b 0 t l) }

pub returns : goal.returns
returns c =
    let b = c.args.out.now in
    let t = c.args.text.now in
    let l : 0 + length t ≤ length b = omega arith in
    record {
      value = rw (end_fits b 0 t l) (omega arith);
      out_after = ap (λ (s : List ℕ). s ++ drop (length t) b) c.copy_from_slice.ensures.after ∙ sym (sets-front t b (omega arith))
          ∙ sym (put-fits b 0 t l);
    }
