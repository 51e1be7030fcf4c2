use native.Mathlib.Omega.{arith}
use Prim.Native.Nat.{◌≤◌}
use Rattle.usage.specs.Reasons.{number_of}
use Rattle.usage.specs.Limits.{most_nodes}
use Rattle.sheet_reader.proofs.AnswerLaws.{outline-held, outline-refused-as}
use Rattle.report.proofs.OutlineLaws.{outline-short}
use Rattle.report.proofs.CounterexampleLaws.{nodes-held, nodes-none}
use borrow.Author.Rules.{rules}
use Rattle.report.proofs.counterexample.of_text.Goals as goal

pub overflow_mul-n : goal.overflow_mul-n
overflow_mul-n c =
    let a = c.args in
    let r = c.read_outline in
    let n = c.in-Ok.n in
    let h = outline-held a.text.now r.new.table n (rw c.in-Ok.is at r.ensures.result_value) r.ensures.table_after in
    let f : n ≤ most_nodes = h.few in
    search rules

pub slice_bounds-of_nodes-end : goal.slice_bounds-of_nodes-end
slice_bounds-of_nodes-end c =
    let a = c.args in
    let r = c.read_outline in
    let n = c.in-Ok.n in
    let h = outline-held a.text.now r.new.table n (rw c.in-Ok.is at r.ensures.result_value) r.ensures.table_after in
    let f : n ≤ most_nodes = h.few in
    search rules

pub refused-requires : goal.refused-requires
refused-requires c =
    let a = c.args in
    let r = c.read_outline in
    let z = outline-refused-as a.text.now c.in-Err.r.line (number_of c.in-Err.r.reason) (rw c.in-Err.is at r.ensures.result_value) in
    let l = outline-short a.text.now c.in-Err.r.line (number_of c.in-Err.r.reason) z in
    omega arith

pub returns-in-Ok : goal.returns-in-Ok
returns-in-Ok c =
    let a = c.args in
    let r = c.read_outline in
    let n = c.in-Ok.n in
    let h = outline-held a.text.now r.new.table n (rw c.in-Ok.is at r.ensures.result_value) r.ensures.table_after in
    nodes-held a.local a.edges.now a.text.now r.new.table n a.out.now h c.of_nodes.ensures

pub returns-in-Err : goal.returns-in-Err
returns-in-Err c =
    let a = c.args in
    let r = c.read_outline in
    let z = outline-refused-as a.text.now c.in-Err.r.line (number_of c.in-Err.r.reason) (rw c.in-Err.is at r.ensures.result_value) in
    nodes-none a.local a.edges.now a.text.now c.in-Err.r.line (number_of c.in-Err.r.reason) a.out.now z (c.refused.ensures.value, c.refused.ensures.out_after)
