use native.Mathlib.Omega.{arith}
use mathlib.Core.Path.{refl}
use Prim.Native.Nat.{◌≤◌}
use Rattle.usage.specs.Reasons.{number_of}
use Rattle.usage.specs.Limits.{most_edges}
use Rattle.sheet_reader.proofs.AnswerLaws.{policies-held, policies-choice, policies-refused}
use Rattle.report.proofs.OutputLaws.{policies-short}
use Rattle.report.proofs.CounterexampleLaws.{edges-held, edges_none}
use borrow.Author.Rules.{rules}
use Rattle.report.proofs.report_counterexample.Goals as goal

pub returns-then-out-lt-COUNTEREXAMPLE_ROOM : goal.returns-then-out-lt-COUNTEREXAMPLE_ROOM
returns-then-out-lt-COUNTEREXAMPLE_ROOM c = record { value = (λ l. (refl, refl)); prints = (λ l. absurd (omega arith)) }

pub overflow_mul-n : goal.overflow_mul-n
overflow_mul-n c =
    let a = c.args in
    let p = c.read_policies in
    let n = c.in-Ok.field-0.edges in
    let h = policies-held a.policies.now p.new.table n c.in-Ok.field-0.local c.in-Ok.ensures.result_value p.ensures.table_after in
    let f : n ≤ most_edges = h.few in
    search rules

pub slice_bounds-of_text-end : goal.slice_bounds-of_text-end
slice_bounds-of_text-end c =
    let a = c.args in
    let p = c.read_policies in
    let n = c.in-Ok.field-0.edges in
    let h = policies-held a.policies.now p.new.table n c.in-Ok.field-0.local c.in-Ok.ensures.result_value p.ensures.table_after in
    let f : n ≤ most_edges = h.few in
    search rules

pub refused-requires : goal.refused-requires
refused-requires c =
    let a = c.args in
    let p = c.read_policies in
    let z = policies-refused a.policies.now c.in-Err.r.line (number_of c.in-Err.r.reason) (rw c.in-Err.is at p.ensures.result_value) in
    let l = policies-short a.policies.now c.in-Err.r.line (number_of c.in-Err.r.reason) z in
    omega arith

pub returns-in-Ok : goal.returns-in-Ok
returns-in-Ok c =
    let a = c.args in
    let p = c.read_policies in
    let n = c.in-Ok.field-0.edges in
    let h = policies-held a.policies.now p.new.table n c.in-Ok.field-0.local c.in-Ok.ensures.result_value p.ensures.table_after in
    let choice = policies-choice a.policies.now n c.in-Ok.field-0.local c.in-Ok.ensures.result_value in record {
      value = (λ l. absurd (omega arith));
      prints = (λ l. edges-held a.policies.now a.outline.now a.out.now p.new.table n h
          (rw choice at c.of_text.ensures));
    }

pub returns-in-Err : goal.returns-in-Err
returns-in-Err c =
    let a = c.args in
    let p = c.read_policies in
    let z = policies-refused a.policies.now c.in-Err.r.line (number_of c.in-Err.r.reason) (rw c.in-Err.is at p.ensures.result_value) in record {
      value = (λ l. absurd (omega arith));
      prints = (λ l.
          edges_none a.policies.now a.outline.now a.out.now c.in-Err.r.line (number_of c.in-Err.r.reason) z (c.refused.ensures.value, c.refused.ensures.out_after));
    }
