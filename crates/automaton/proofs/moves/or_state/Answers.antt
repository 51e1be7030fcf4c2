-- `or_state` meets its contract.
use mathlib.Core.Bool.{cond}
use mathlib.Core.Path.{sym, ap, ◌∙◌}
use borrow.Author.Tests.{eq-eqb}
use Rattle.automaton.specs.Mask.{single}
use Rattle.automaton.proofs.RowLaws.{shifted-single}
use Rattle.automaton.proofs.moves.or_state.Goals as goal

pub returns-then-v-eq0 : goal.returns-then-v-eq0
returns-then-v-eq0 c = shifted-single c.args.q c.requires
    ∙ sym (ap (λ b. cond b (single c.args.q) c.args.v) (eq-eqb _ _ c.if-v-eq0.true))
