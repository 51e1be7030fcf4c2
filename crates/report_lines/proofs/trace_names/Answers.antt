use Rattle.report_lines.specs.Lines.{trace_names_line}
use borrow.Author.Rules.{rules}
use Rattle.report_lines.proofs.trace_names.Goals as goal

pub returns : goal.returns
unfolding trace_names_line
returns c = search rules
