use Rattle.report.proofs.refusal_row.Goals as goal

pub returns : goal.returns
returns c = rw (← c.from.ensures) c.row.ensures
