-- `follow` meets its contract. One way for each kind of label; the table of instances that do not match is joined the empty set.
use mathlib.Core.Bool.{true, false}
use mathlib.Core.Path.{◌≡◌, sym, ◌∙◌}
use Rattle.automaton.proofs.RowLaws.{joined-none}
use Rattle.automaton.proofs.moves.follow.Goals as goal

pub returns-then-on-eq-ON_FIRST : goal.returns-then-on-eq-ON_FIRST
returns-then-on-eq-ON_FIRST c = rw c.if-on-eq-ON_FIRST.true (record { own_after = c.join.ensures; other_after = sym (joined-none _ _ _) })

pub returns-then-seen : goal.returns-then-seen
returns-then-seen c =
    let second : c.before.before.before.args.seen.second ≡ true = c.if-seen.true in
    rw c.if-on-eq-ON_OTHER.true (rw second (record { own_after = sym (joined-none _ _ _); other_after = sym (joined-none _ _ _) }))

pub returns-then-on-eq-ON_OTHER : goal.returns-then-on-eq-ON_OTHER
returns-then-on-eq-ON_OTHER c =
    let apart : c.before.before.before.before.before.args.seen.second ≡ false = c.if-seen.false in
    rw c.if-on-eq-ON_OTHER.true (rw apart (record { own_after = sym (joined-none _ _ _); other_after = c.join-then-on-eq-ON_OTHER.ensures }))

pub returns-then-matches_both : goal.returns-then-matches_both
returns-then-matches_both c =
    let m = c.matches_both.ensures in
    simp (sym (m true) ∙ c.if-matches_both.true, sym (m false) ∙ c.if-matches_both.true) (record { own_after = c.join-then-matches_both.ensures; other_after = c.join-then-matches_both-2.ensures })

pub returns-else-matches_both : goal.returns-else-matches_both
returns-else-matches_both c =
    let m = c.matches_both.ensures in
    simp (sym (m true) ∙ c.if-matches_both.false, sym (m false) ∙ c.if-matches_both.false) (record { own_after = sym (joined-none _ _ _); other_after = sym (joined-none _ _ _) })
