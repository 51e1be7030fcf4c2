use mathlib.Core.Path.{sym, ap, ◌∙◌}
use borrow.Author.Tests.{eq-eqb, ne_eqb, lt-ltb, le-ltb}
use lib.Bits.{bit_or}
use Rattle.automaton.specs.PairSet.{with_pair}
use Rattle.automaton.proofs.MaskLaws.{bit_shifted}
use Rattle.automaton.proofs.pairs.joined.Goals as goal
use Rattle.automaton.proofs.pairs.joined.Goals.{then-on-via-then-on, then-on-via-else-on+then-policy}

pub returns-then-on : goal.returns-then-on
unfolding with_pair
returns-then-on c =
    elim c.then-on.branch [
      | then-on-via-then-on w ↦ sym (simp (ne_eqb _ _ w.if-on.true))
      | then-on-via-else-on+then-policy w ↦ sym (simp (eq-eqb _ _ w.if-on.false, le-ltb _ _ w.if-policy.true))
    ]

pub returns : goal.returns
unfolding with_pair
returns c =
    let a = c.args in
    ap (bit_or a.m) (bit_shifted _ c.if-policy.false) ∙ sym (simp (eq-eqb _ _ c.if-on.false, lt-ltb _ _ c.if-policy.false))
