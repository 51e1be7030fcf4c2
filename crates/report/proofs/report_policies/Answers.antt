use Rattle.usage.specs.Reasons.{number_of}
use Rattle.report.specs.Policies.{policies_printed, policies_room}
use Rattle.report.proofs.OutputLaws.{no_room}
use Rattle.report.proofs.PoliciesLaws.{sheet-printed, refusal-printed, refusal-fits}
use Rattle.report.proofs.report_policies.Goals as goal

pub returns-then-out-lt-POLICIES_ROOM : goal.returns-then-out-lt-POLICIES_ROOM
returns-then-out-lt-POLICIES_ROOM c =
    let a = c.args in
    let y = no_room policies_room a.out.now (policies_printed a.policies.now) c.if-out-lt-POLICIES_ROOM.true in
    record { value = y.0; out_after = y.1 }

pub refused-requires : goal.refused-requires
refused-requires c =
    let a = c.args in
    let w = c.write_policies in
    let room = c.if-out-lt-POLICIES_ROOM.false in
    refusal-fits a.out.now room a.policies.now c.in-Err.refusal.line (number_of c.in-Err.refusal.reason) (rw c.in-Err.is at w.ensures.result_value) w.ensures.out_after

pub returns-in-Ok : goal.returns-in-Ok
returns-in-Ok c =
    let a = c.args in
    let w = c.write_policies.ensures in
    let room = c.if-out-lt-POLICIES_ROOM.false in
    let y = sheet-printed a.out.now room a.policies.now c.in-Ok.n (rw c.in-Ok.is at w.result_value) w.out_after in
    record { value = y.0; out_after = y.1 }

pub returns-in-Err : goal.returns-in-Err
returns-in-Err c =
    let a = c.args in
    let w = c.write_policies.ensures in
    let room = c.if-out-lt-POLICIES_ROOM.false in
    let r = c.refused.ensures in
    let y = refusal-printed a.out.now room a.policies.now c.in-Err.refusal.line (number_of c.in-Err.refusal.reason) (rw c.in-Err.is at w.result_value) w.out_after r.value r.out_after in
    record { value = y.0; out_after = y.1 }
