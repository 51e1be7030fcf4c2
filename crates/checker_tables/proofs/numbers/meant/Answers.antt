use mathlib.Core.Path.{sym, ap, ◌∙◌}
use Prim.Native.Nat.{ℕ, suc, ◌+◌}
use borrow.Author.Tests.{eq-eqb, ne_eqb}
use native.Mathlib.Numerals.{add-one}
use Rattle.checker_account.specs.Tables.{meant_at}
use Rattle.checker_tables.proofs.numbers.meant.Goals as goal

pub returns-then-meaning-n : goal.returns-then-meaning-n
unfolding meant_at
returns-then-meaning-n c =
    let e = sym c.meaning.ensures ∙ c.if-meaning-n.true ∙ add-one c.args.n in
    simp (eq-eqb _ (suc c.args.n) e)

pub returns-then-group-n-eq-NAMES : goal.returns-then-group-n-eq-NAMES
unfolding meant_at
returns-then-group-n-eq-NAMES c =
    let d = c.if-meaning-n.false in
    let e = ap (λ (g : ℕ). g + c.args.n) (sym c.group.ensures) ∙ c.if-group-n-eq-NAMES.true in
    simp (ne_eqb _ (suc c.args.n) (λ f. d (c.meaning.ensures ∙ f ∙ sym (add-one c.args.n))), eq-eqb _ _ e)

pub returns : goal.returns
unfolding meant_at
returns c =
    let d = c.if-meaning-n.false in
    let b = c.if-group-n-eq-NAMES.false in
    simp (
      ne_eqb _ (suc c.args.n) (λ f. d (c.meaning.ensures ∙ f ∙ sym (add-one c.args.n))),
      ne_eqb _ _ (λ f. b (ap (λ (g : ℕ). g + c.args.n) c.group.ensures ∙ f)),
    )
