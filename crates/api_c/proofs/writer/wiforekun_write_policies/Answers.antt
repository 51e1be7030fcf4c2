use lib.ListN.{length}
use Rattle.usage.specs.Reasons.{number_of}
use Rattle.sheet_writer.specs.Writer.{written_into}
use Rattle.api_c.proofs.WritingLaws.{told-length, told-refusal}
use Rattle.api_c.proofs.writer.wiforekun_write_policies.Goals as goal

pub returns-in-Ok : goal.returns-in-Ok
returns-in-Ok c =
    let a = c.args in
    let e = c.write_policies.ensures in
    let z = told-length (written_into (length a.out.now) a.text.now) c.in-Ok.n (rw c.in-Ok.is at e.result_value) a.refusal.now in
    record { value = z.0; out_after = e.out_after; refusal_after = z.1 }

pub returns-in-Err : goal.returns-in-Err
returns-in-Err c =
    let a = c.args in
    let e = c.write_policies.ensures in
    let w = written_into (length a.out.now) a.text.now in
    let z = told-refusal w c.in-Err.r.line (number_of c.in-Err.r.reason) (rw c.in-Err.is at e.result_value) a.refusal.now in
    record { value = z.0; out_after = e.out_after; refusal_after = rw c.from.ensures z.1 }
