use mathlib.Core.Path.{ap, ◌∙◌}
use Prim.Native.Nat.{ℕ}
use Rattle.checker_account.specs.Tables.{joined_at}
use Rattle.checker_account.specs.Filling.{entered}
use Rattle.checker_tables.proofs.arrivals.enter.Goals as goal

pub returns : goal.returns
unfolding entered
returns c =
    let a = c.args in
    (c.join.ensures.t_after ∙ ap (λ (i : ℕ). joined_at a.u.now i a.g.states) c.place-i.ensures, (c.join.ensures.value, c.join.ensures.wide))
