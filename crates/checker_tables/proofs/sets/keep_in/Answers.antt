use mathlib.Core.Path.{sym, ◌∙◌, subst}
use Prim.Native.Nat.{ℕ}
use lib.ListN.{get_or}
use Rattle.usage.specs.Limits.{states}
use Rattle.checker_account.specs.Tables.{kept}
use Rattle.checker_tables.specs.ByState.{ByState}
use Rattle.checker_tables.proofs.RuleLaws.{kept-late, kept-else}
use Rattle.checker_tables.proofs.sets.keep_in.Goals as goal

pub returns-then-is_late : goal.returns-then-is_late
returns-then-is_late c =
    let a = c.args in kept-late a.e a.v (sym c.is_late.ensures ∙ c.if-is_late.true)

pub returns : goal.returns
returns c =
    let a = c.args in
    kept-else a.e a.v c.keep_each.result (sym c.is_late.ensures ∙ c.if-is_late.false)
    (subst (λ (m : ℕ). ByState states (λ q. kept m (get_or a.v q 0)) c.keep_each.result) c.meaning.ensures c.keep_each.ensures)
