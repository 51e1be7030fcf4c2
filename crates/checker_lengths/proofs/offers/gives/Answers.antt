use Prim.Native.Nat.{ℕ, ◌%◌}
use mathlib.Core.Path.{sym, ap, ◌∙◌}
use native.Mathlib.Omega.{arith}
use borrow.Author.Tests.{leb-false}
use Rattle.usage.specs.Limits.{most_shown}
use Rattle.automaton.specs.Mask.{has}
use Rattle.checker_lengths.specs.Entries.{all_lengths, held}
use Rattle.checker_lengths.specs.Offers as spec
use Rattle.checker_lengths.proofs.OfferLaws as laws
use Rattle.checker_lengths.proofs.offers.gives.Goals as goal

pub returns-in-Sequence : goal.returns-in-Sequence
unfolding spec.offer_of
returns-in-Sequence c = λ g w i.
    let a = c.args in
    let look = held a.t.now all_lengths in
    let s = spec.toward a.s i in
    let v = c.get.ensures ∙ ap look c.first.ensures in
    let l = leb-false c.get.result most_shown g in
    rw c.in-Sequence.is (sym (laws.sequence-dead look s c.in-Sequence.a c.in-Sequence.second a.c c.if-c-ge-BROKEN.false
    (omega (arith, v))))

pub returns-in-Fresh : goal.returns-in-Fresh
unfolding spec.offer_of spec.born spec.moved
returns-in-Fresh c = λ g w i.
    let a = c.args in
    let look = held a.t.now all_lengths in
    let s = spec.toward a.s i in
    rw c.in-Fresh.is (sym (laws.fresh-dead a.rows.now look s c.in-Fresh.name c.in-Fresh.body a.c c.if-c-ge-BROKEN.false
    (sym (ap (λ (v : ℕ). has v (a.c % 8)) c.born.ensures) ∙ sym c.has.ensures ∙ g)))
