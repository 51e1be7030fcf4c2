use Rattle.sheet_expression.proofs.LabelLaws.{meant-past, meant-loop, meant-none}
use native.Mathlib.Omega.{arith}
use mathlib.Core.Path.{◌≡◌}
use lib.ListN.{length}
use borrow.Author.Rules.{rules}
use Rattle.sheet_expression.proofs.phrases.meant.Goals as goal

pub returns-then-l-ge-LABELS : goal.returns-then-l-ge-LABELS
returns-then-l-ge-LABELS c =
    let a = c.args in
    let n : length a.loops ≡ 10 = search rules in
    λ l. meant-past a.loops a.label a.own n c.if-l-ge-LABELS.true

pub returns-in-Some : goal.returns-in-Some
returns-in-Some c = let a = c.args in let s = c.in-Some in λ l. meant-loop a.loops a.label a.own _ (omega arith) _ s.is

pub returns-in-None : goal.returns-in-None
returns-in-None c = let a = c.args in let s = c.in-None in λ l. meant-none a.loops a.label a.own _ (omega arith) s.is
