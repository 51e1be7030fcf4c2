use Rattle.checker_lengths.specs.Entries.{held}
use Rattle.checker_lengths.proofs.OfferLaws as laws
use native.Mathlib.Omega.{arith}
use mathlib.Core.Path.{ap, ◌∙◌}
use Rattle.checker_lengths.proofs.offers.sequence.Goals as goal

pub returns-then-v-gt-MOST : goal.returns-then-v-gt-MOST
returns-then-v-gt-MOST c = let a = c.args in let look = held a.t.now a.most in let g = c.get-v.ensures
    ∙ ap look c.first.ensures in
    laws.sequence-dead look a.e a.a a.b a.c c.if-c-ge-BROKEN.false (omega (arith, g))
