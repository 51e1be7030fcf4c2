-- 41 comes before 42.
use mathlib.Core.Path.{sym, ap, ◌∙◌}
use mathlib.Core.Bool.{Bool, cond}
use Rattle.usage.specs.Answers.{refused}
use Rattle.api_c.specs.Codes.{code_of}
use Rattle.api_c.proofs.no_state.Goals as goal

pub returns-then-edge_table_ok : goal.returns-then-edge_table_ok
returns-then-edge_table_ok c = c.refused.ensures
    ∙ ap (λ (b : Bool). code_of (refused (cond b 42 41))) (sym c.if-edge_table_ok.true ∙ c.edge_table_ok.ensures)

pub returns : goal.returns
returns c = c.refused-2.ensures
    ∙ ap (λ (b : Bool). code_of (refused (cond b 42 41))) (sym c.if-edge_table_ok.false ∙ c.edge_table_ok.ensures)
