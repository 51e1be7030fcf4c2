use Rattle.report_lines.specs.Lines.{node_names_line}
use borrow.Author.Rules.{rules}
use Rattle.report_lines.proofs.node_names.Goals as goal

pub returns : goal.returns
unfolding node_names_line
returns c = search rules
