use Rattle.checker_tables.specs.Work.{noted}
use Rattle.checker_tables.proofs.OtherLaws.{no-noted}
use Rattle.checker_tables.proofs.work.note_parts.Goals as goal

pub returns-in-Sequence : goal.returns-in-Sequence
unfolding noted
returns-in-Sequence c = rw c.in-Sequence.is c.note_both.ensures

pub returns-in-Choice : goal.returns-in-Choice
unfolding noted
returns-in-Choice c = rw c.in-Choice.is c.note_both-in-Choice.ensures

pub returns-in-Loop : goal.returns-in-Loop
unfolding noted
returns-in-Loop c = rw c.in-Loop.is c.note.ensures

pub returns-in-Back : goal.returns-in-Back
unfolding noted
returns-in-Back c = rw c.in-Back.is c.note-in-Back.ensures

pub returns-in-Fresh : goal.returns-in-Fresh
unfolding noted
returns-in-Fresh c = rw c.in-Fresh.is c.note-in-Fresh.ensures

pub returns-in-Sandbox : goal.returns-in-Sandbox
unfolding noted
returns-in-Sandbox c = rw c.in-Sandbox.is c.note-in-Sandbox.ensures

pub returns-in_default : goal.returns-in_default
returns-in_default c = let a = c.args in no-noted a.k a.masks.now a.f c.in_default.not-Sequence c.in_default.not-Choice c.in_default.not-Loop c.in_default.not-Back c.in_default.not-Fresh c.in_default.not-Sandbox
