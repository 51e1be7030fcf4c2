use Rattle.report_lines.specs.Lines.{names_line}
use borrow.Author.Rules.{rules}
use Rattle.report_lines.proofs.names.Goals as goal

pub returns : goal.returns
unfolding names_line
returns c = search rules
