use Rattle.report_lines.specs.Lines.{desk_names_line}
use borrow.Author.Rules.{rules}
use Rattle.report_lines.proofs.desk_names.Goals as goal

pub returns : goal.returns
unfolding desk_names_line
returns c = search rules
