use Prim.Native.Nat.{◌*◌, ◌-◌}
use mathlib.Core.Path.{sym, ap, ◌∙◌}
use native.Mathlib.Omega.{arith}
use lib.ListN.{length}
use Rattle.desk.proofs.StateLaws.{edges-got, judged-by}
use Rattle.monitor_lean.proofs.KeptLaws.{by-refused-kept}
use Rattle.desk.specs.declared.Held.{Held}
use Rattle.desk.specs.JudgeBytes.{judge_in}
use Rattle.desk.specs.State.{edges_in, local_in, summary_in, looks_of}
use Rattle.desk.proofs.JudgeByteLaws.{pairs-lent, pairs-long, pairs-back, judged-refused, judged-taken}
use Rattle.desk.proofs.judge.judged.Goals as goal

pub returns-then-is_refusal : goal.returns-then-is_refusal
returns-then-is_refusal c =
    let a = c.args in
    let p = c.requires in
    let x = c.judge_looked-t in
    let lent = pairs-lent a.b.now p.desk_bytes_in_bounds in
    let l = x.ensures.pairs_len_unchanged ∙ ap length lent ∙ pairs-long a.b.now in
    let n = edges-got a.b.now a.h _ (6 * a.h.edges - 0) p.edges_le_most_edges c.bytes_at-edges.ensures (omega arith) in
    let is = x.ensures.order_after
    ∙ judged-by a.b.now a.h a.step a.lean c.looked_at-looked.result _ _ _ _ c.looked_at-looked.ensures n c.held_in-k.ensures lent
    c.sizes_in.ensures in
    let k : Held = record {
      sets = x.new.sets;
      possible = x.new.possible;
      numbers = x.new.created;
      counts = x.new.unclosed;
      order = x.new.order;
    } in
    let pairs = x.new.pairs in record {
      judged_in = judged-refused a.b.now p.desk_bytes_in_bounds _ x.result k pairs l is a.h
          (by-refused-kept (looks_of a.lean (summary_in a.b.now)) (edges_in a.b.now a.h) (local_in a.h) (judge_in a.b.now a.h) a.step)
          (sym c.is_refusal.ensures ∙ c.if-is_refusal.true);
      b_len_unchanged = (pairs-back a.b.now pairs p.desk_bytes_in_bounds l).0.long;
    }

pub returns : goal.returns
returns c =
    let a = c.args in
    let p = c.requires in
    let x = c.judge_looked-t in
    let lent = pairs-lent a.b.now p.desk_bytes_in_bounds in
    let l = x.ensures.pairs_len_unchanged ∙ ap length lent ∙ pairs-long a.b.now in
    let n = edges-got a.b.now a.h _ (6 * a.h.edges - 0) p.edges_le_most_edges c.bytes_at-edges.ensures (omega arith) in
    let is = x.ensures.order_after
    ∙ judged-by a.b.now a.h a.step a.lean c.looked_at-looked.result _ _ _ _ c.looked_at-looked.ensures n c.held_in-k.ensures lent
    c.sizes_in.ensures in
    let k : Held = record {
      sets = x.new.sets;
      possible = x.new.possible;
      numbers = x.new.created;
      counts = x.new.unclosed;
      order = x.new.order;
    } in
    let pairs = x.new.pairs in
    let o = c.held_out.ensures in record { judged_in = judged-taken a.b.now p.desk_bytes_in_bounds _ x.result k pairs l is _ (sym c.is_refusal.ensures ∙ c.if-is_refusal.false) o; b_len_unchanged = o.within.long ∙ (pairs-back a.b.now pairs p.desk_bytes_in_bounds l).0.long }
