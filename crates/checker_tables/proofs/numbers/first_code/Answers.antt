use mathlib.Core.Path.{◌≡◌, sym, ap, ◌∙◌}
use mathlib.Core.Bool.{Bool, cond}
use Prim.Native.Nat.{ℕ, ◌+◌}
use native.Mathlib.Omega.{arith}
use borrow.Author.Tests.{eq-eqb, ne_eqb}
use Rattle.checker_account.specs.Tables.{least, numbered, first_code_lem}
use Rattle.checker_tables.proofs.numbers.first_code.Goals as goal

pub returns-then-x-eq-WATCHED_TOO : goal.returns-then-x-eq-WATCHED_TOO
unfolding first_code_lem
returns-then-x-eq-WATCHED_TOO c =
    let x = c.args.x in
    ap (λ (m : ℕ). m + 30) c.least.ensures.value ∙ ap (λ (b : Bool). numbered (least x) (cond b 5 0)) (sym (eq-eqb _ _ c.if-x-eq-WATCHED_TOO.true))

pub returns-else-x-eq-WATCHED_TOO : goal.returns-else-x-eq-WATCHED_TOO
unfolding first_code_lem
returns-else-x-eq-WATCHED_TOO c =
    let x = c.args.x in
    let e : least x ≡ numbered (least x) 0 = omega arith in
    c.least-else-x-eq-WATCHED_TOO.ensures.value ∙ e ∙ ap (λ (b : Bool). numbered (least x) (cond b 5 0)) (sym (ne_eqb _ _ c.if-x-eq-WATCHED_TOO.false))
