use mathlib.Core.Path.{ap₂}
use lib.Bits.{bit_or}
use Rattle.checker_trace.specs.Code.{leads_of}
use Rattle.checker_trace.proofs.BitLaws.{no-leads}
use Rattle.checker_trace.proofs.find.leads.Goals as goal

pub returns-in-Sequence : goal.returns-in-Sequence
unfolding leads_of
returns-in-Sequence c = rw c.in-Sequence.is c.sequence.ensures

pub returns-in-Choice : goal.returns-in-Choice
unfolding leads_of
returns-in-Choice c = rw c.in-Choice.is (ap₂ bit_or c.bit.ensures c.bit-in-Choice.ensures)

pub returns-in-Loop : goal.returns-in-Loop
unfolding leads_of
returns-in-Loop c = rw c.in-Loop.is c.bit-in-Loop.ensures

pub returns-in-Back : goal.returns-in-Back
unfolding leads_of
returns-in-Back c = rw c.in-Back.is c.bit-in-Back.ensures

pub returns-in_default : goal.returns-in_default
returns-in_default c = let a = c.args in no-leads a.t.now a.e a.f c.in_default.not-Sequence c.in_default.not-Choice c.in_default.not-Loop c.in_default.not-Back
