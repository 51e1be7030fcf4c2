use mathlib.Core.Path.{◌∙◌}
use Rattle.checker_lengths.proofs.OfferLaws as laws
use Rattle.checker_lengths.proofs.offers.body.Goals as goal
use Rattle.checker_lengths.proofs.offers.body.Goals.{then-c-ge-STATES, else-c-ge-STATES}

pub returns : goal.returns
returns c =
    let a = c.args in
    let e = a.e in
    laws.body_is e a.n a.b a.c c.if-c-ge-STATES.meaning
    (elim c.if-c-ge-STATES.branch [
      | then-c-ge-STATES w ↦ w.meaning-is ∙ laws.named-own e.meaning a.n a.c w.if-c-ge-STATES.true
      | else-c-ge-STATES w ↦ w.meaning-is ∙ w.lose-meaning.ensures ∙ laws.named_other e.meaning a.n a.c w.if-c-ge-STATES.false
    ])
