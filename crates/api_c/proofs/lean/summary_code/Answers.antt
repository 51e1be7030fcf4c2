use Rattle.api_c.specs.Summary.{summary_code_lem}
use Rattle.api_c.proofs.LeanLaws.{some_number}
use Rattle.api_c.proofs.lean.summary_code.Goals as goal

pub returns-in-Ok : goal.returns-in-Ok
unfolding summary_code_lem
returns-in-Ok c = rw c.in-Ok.is

pub returns-in-Err : goal.returns-in-Err
unfolding summary_code_lem
returns-in-Err c = rw (c.in-Err.is, some_number c.in-Err.reason) c.refused.ensures
