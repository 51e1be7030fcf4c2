-- `matches_both` meets its contract: a label that names a static, one on the second resource, or none.
use mathlib.Core.Path.{refl, sym}
use Rattle.automaton.proofs.RowLaws.{label-none}
use Rattle.automaton.proofs.moves.matches_both.Goals as goal

pub returns-then-on-eq-ON_STATIC : goal.returns-then-on-eq-ON_STATIC
returns-then-on-eq-ON_STATIC c = rw c.if-on-eq-ON_STATIC.true (λ first. refl)

pub returns-then-on-eq-ON_SECOND : goal.returns-then-on-eq-ON_SECOND
returns-then-on-eq-ON_SECOND c = rw c.if-on-eq-ON_SECOND.true (λ first. refl)

pub returns : goal.returns
returns c =
    let a = c.args in
    λ first. sym (label-none a.on a.who first a.seen.second a.seen.resource c.if-on-eq-ON_STATIC.false c.requires.not_first
    c.requires.not_other c.if-on-eq-ON_SECOND.false)
