use mathlib.Core.Path.{◌∙◌}
use Rattle.monitor_state.specs.Looked.{looked_at}
use Rattle.monitor_state.proofs.LookedLaws.{sized-alike}
use Rattle.monitor_lean.specs.Lean.{marked}
use Rattle.monitor_lean.proofs.LeanLaws.{lean-promise}
use Rattle.monitor_lean.proofs.judge_lean.Goals as goal

pub returns : goal.returns
returns c =
    let a = c.args in
    let l = c.looked_at-looked in record {
      order_after = c.judge_looked.ensures.order_after
          ∙ sized-alike (looked_at l.result) (marked a.marks.now) a.edges.now a.local _ a.step l.ensures;
      pairs_len_unchanged = c.judge_looked.ensures.pairs_len_unchanged;
      lean_promise = lean-promise a.edges.now a.local a.marks.now;
    }
