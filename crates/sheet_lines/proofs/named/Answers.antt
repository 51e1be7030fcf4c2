use mathlib.Core.Path.{sym, ◌∙◌}
use Rattle.sheet_lines.specs.Sheets.{trace_sheet, outline_sheet}
use Rattle.sheet_lines.proofs.BeginLaws.{begins-same}
use Rattle.sheet_lines.proofs.named.Goals as goal

pub returns-in-Policies : goal.returns-in-Policies
returns-in-Policies c = c.policies_named.ensures ∙ sym (rw c.in-Policies.is)

pub returns-in-Trace : goal.returns-in-Trace
returns-in-Trace c = c.starts_with.ensures.value ∙ begins-same trace_sheet.names c.args.text.now ∙ sym (rw c.in-Trace.is)

pub returns-in-Outline : goal.returns-in-Outline
returns-in-Outline c =
    c.starts_with-in-Outline.ensures.value ∙ begins-same outline_sheet.names c.args.text.now ∙ sym (rw c.in-Outline.is)
