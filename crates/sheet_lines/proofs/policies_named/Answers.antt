use mathlib.Core.Path.{sym, ◌∙◌}
use mathlib.Core.Bool.{false}
use Rattle.sheet_lines.specs.Sheets.{is_local, policy_names_lem}
use Rattle.sheet_lines.proofs.BeginLaws.{begins-same}
use Rattle.sheet_lines.proofs.policies_named.Goals as goal

pub returns-then-local : goal.returns-then-local
unfolding is_local
returns-then-local c = c.is_local.ensures ∙ sym (rw c.if-local.true)

pub returns : goal.returns
returns c = c.starts_with.ensures.value ∙ begins-same (policy_names_lem false) c.args.text.now ∙ sym (rw c.if-local.false)
