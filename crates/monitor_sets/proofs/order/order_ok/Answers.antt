use Prim.Native.Nat.{ℕ, ◌<◌}
use mathlib.Core.List.{List}
use mathlib.Core.Path.{◌≡◌, sym, ap, ◌∙◌}
use native.Mathlib.Omega.{arith}
use lib.ListN.{get_or}
use borrow.Author.Tests.{le-leb, lt-leb}
use Rattle.std.proofs.lemmas.Bool.Decides.{Decides-eqb}
use Rattle.std.proofs.lemmas.Slice.Eq.{slice_eq-Decides}
use Rattle.usage.specs.Limits.{policies}
use Rattle.usage.specs.Past.{occurrences}
use Rattle.usage.specs.Tests.{every}
use Rattle.monitor_sets.specs.Order.{stack_in, is_policy, order_ok_lem}
use Rattle.monitor_sets.proofs.OrderLaws.{agrees, stack-front, counts-same}
use Rattle.monitor_sets.proofs.order.order_ok.Goals as goal

pub returns-then-depth-gt-MOST_UNCLOSED-clause-value : goal.returns-then-depth-gt-MOST_UNCLOSED-clause-value
unfolding order_ok_lem
returns-then-depth-gt-MOST_UNCLOSED-clause-value c = simp (lt-leb _ _ c.if-depth-gt-MOST_UNCLOSED.true)

pub returns-in-Some-clause-value : goal.returns-in-Some-clause-value
unfolding order_ok_lem
returns-in-Some-clause-value c =
    let a = c.args in
    let counts = c.in-Some.counts in
    let front = stack-front a.depth a.order.now (omega arith) in
    let (each, long, counted) = c.tally.ensures.some counts c.in-Some.is in
    let stack : (p : ℕ) → p < policies → get_or counts p 0 ≡ occurrences p (stack_in a.depth a.order.now) =
    λ p l. counted p l ∙ ap (occurrences p) front in
    let same = slice_eq-Decides Decides-eqb counts a.unclosed.now c.eq.result c.eq.ensures in
    simp (le-leb _ _ c.if-depth-gt-MOST_UNCLOSED.false, ap (every is_policy) (sym front) ∙ each)
    (agrees (stack_in a.depth a.order.now) a.unclosed.now c.eq.result
    (λ h. same.1 (counts-same counts a.unclosed.now long c.told-unclosed (λ p l. stack p l ∙ h p l)))
    (λ e p l. sym (stack p l) ∙ ap (λ (u : List ℕ). get_or u p 0) (same.0 e)))

pub returns-in-None-clause-value : goal.returns-in-None-clause-value
unfolding order_ok_lem
returns-in-None-clause-value c =
    let a = c.args in
    let none = ap (every is_policy) (sym (stack-front a.depth a.order.now (omega arith))) ∙ c.tally.ensures.none c.in-None.is in
    simp (le-leb _ _ c.if-depth-gt-MOST_UNCLOSED.false, none)
