use mathlib.Core.Path.{subst}
use Rattle.sheet_reader.proofs.AnswerLaws.{policies-held, policies-choice, policies-refused}
use Rattle.desk.specs.Calls.{Called, ByPolicies}
use Rattle.desk.proofs.LoadLaws.{policies-line, policies-no-sheet, policies-loaded}
use native.Mathlib.Omega.{arith}
use Rattle.usage.specs.Reasons.{number_of}
use mathlib.Core.Path.{sym}
use Prim.Native.Nat.{ℕ, ◌≤◌}
use Rattle.desk.proofs.loads.load_policies.Goals as goal

-- src/loads.rt:142:52
pub refused_at-requires : goal.refused_at-requires
refused_at-requires c =
    let a = c.args in
    let t = c.read_policies in
    policies-line a.text.now c.in-Err.r.line (number_of c.in-Err.r.reason) (policies-refused a.text.now c.in-Err.r.line (number_of c.in-Err.r.reason) (rw c.in-Err.is at t.ensures.result_value))

-- src/loads.rt:144:13
pub store_policies-requires : goal.store_policies-requires
store_policies-requires c =
    let a = c.args in
    let p = c.requires in
    let t = c.read_policies in
    let h = policies-held a.text.now t.new.table c.in-Ok.sheet.edges c.in-Ok.sheet.local (rw c.in-Ok.is at t.ensures.result_value) t.ensures.table_after in
    let f : c.in-Ok.sheet.edges ≤ 256 = h.few in
    record { desk_bytes_in_bounds = p.desk_bytes_in_bounds; n_le_most_edges = f; n_in_bounds = omega arith }

-- src/loads.rt:133:1
pub returns-in-Err : goal.returns-in-Err
returns-in-Err c =
    let a = c.args in
    let p = c.requires in
    let t = c.read_policies in
    subst (λ (r : ℕ). Called (ByPolicies a.text.now) a.b.now r a.b.now) (sym c.refused_at.ensures)
    (policies-no-sheet a.text.now a.b.now p.desk_bytes_in_bounds p.is_desk p.is_free c.in-Err.r.line (number_of c.in-Err.r.reason)
    (policies-refused a.text.now c.in-Err.r.line (number_of c.in-Err.r.reason) (rw c.in-Err.is at t.ensures.result_value)))

-- src/loads.rt:133:1
pub returns-in-Ok : goal.returns-in-Ok
returns-in-Ok c =
    let a = c.args in
    let p = c.requires in
    let t = c.read_policies in
    let s = c.store_policies in
    policies-loaded a.text.now a.b.now p.desk_bytes_in_bounds p.is_desk p.is_free c.in-Ok.sheet.edges c.in-Ok.sheet.local t.new.table s.new.b
    (policies-held a.text.now t.new.table c.in-Ok.sheet.edges c.in-Ok.sheet.local (rw c.in-Ok.is at t.ensures.result_value) t.ensures.table_after)
    (policies-choice a.text.now c.in-Ok.sheet.edges c.in-Ok.sheet.local (rw c.in-Ok.is at t.ensures.result_value)) s.ensures.encodes s.ensures.within
