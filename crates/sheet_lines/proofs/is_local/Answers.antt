use Rattle.sheet_lines.specs.Sheets.{is_local, policy_names_lem}
use Rattle.sheet_lines.proofs.BeginLaws.{begins-same}
use mathlib.Core.Path.{◌∙◌}
use mathlib.Core.Bool.{true}
use Rattle.sheet_lines.proofs.is_local.Goals as goal

pub returns : goal.returns
unfolding is_local
returns c = c.starts_with.ensures.value ∙ begins-same (policy_names_lem true) c.args.text.now
