use mathlib.Core.Path.{ap, ◌∙◌}
use Rattle.api_c.specs.Reading.{read_code}
use Rattle.api_c.proofs.expression.wiforekun_read_expression.Goals as goal

pub returns : goal.returns
returns c =
    let r = c.read_expression in
    record { value = c.read_code.ensures ∙ ap read_code r.ensures.result_value; table_after = r.ensures.table_after }
