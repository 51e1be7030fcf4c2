use mathlib.Core.Path.{refl, subst}
use Rattle.usage.proofs.Logic.{not-true, not-false}
use Rattle.checker_lengths.specs.declared.Entry.{Entry}
use Rattle.checker_trace.specs.Code.{Writes}
use Rattle.checker_trace.proofs.ShownLaws as laws
use Rattle.checker_trace.proofs.show.Goals as goal

pub returns-then-not-again : goal.returns-then-not-again
returns-then-not-again c =
    let a = c.args in
    let p = c.requires in
    let r = c.again in record {
      trace_len_unchanged = refl;
      shows = laws.never-shows a.w a.rows.now a.nodes.now a.n a.trace.now a.trace.now
          (laws.table_none r.result a.w a.rows.now a.nodes.now r.new.t r.ensures
          (not-true r.result c.if-not-again.true-raw)) p.n_le_most_shown;
    }

pub returns : goal.returns
returns c =
    let a = c.args in
    let p = c.requires in
    let r = c.again in
    let t = r.new.t in
    let w = c.write in record {
      trace_len_unchanged = w.ensures.length_kept;
      shows = laws.root-shows a.w a.rows.now a.nodes.now t a.n a.trace.now w.result w.new.trace
          (laws.table_of r.result a.w a.rows.now a.nodes.now t r.ensures
          (not-false r.result c.if-not-again.false-raw)) p.n_le_most_shown p.most_numbers_in_bounds
          (subst (λ (y : Entry). Writes a.w a.rows.now a.nodes.now t y a.n laws.none-given laws.at_first a.trace.now
          w.result w.new.trace) c.root.ensures w.ensures.writes);
    }
