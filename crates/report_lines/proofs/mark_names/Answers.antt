use Rattle.report_lines.specs.Lines.{mark_names_line}
use borrow.Author.Rules.{rules}
use Rattle.report_lines.proofs.mark_names.Goals as goal

pub returns : goal.returns
unfolding mark_names_line
returns c = search rules
