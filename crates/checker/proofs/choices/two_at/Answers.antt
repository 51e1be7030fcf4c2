use mathlib.Core.Path.{sym, ap}
use mathlib.Core.Bool.{Bool, cond}
use Prim.Native.Nat.{◌/◌, ◌%◌}
use borrow.Author.Tests.{eq-eqb, ne_eqb}
use Rattle.checker_account.specs.Account.{watched, watched_too}
use Rattle.checker_account.specs.Tables.{two_resources}
use Rattle.checker_account.specs.Choices.{single_count, grid_count, choice_at}
use Rattle.checker.proofs.choices.two_at.Goals as goal

pub returns-then-i-eq-GRID : goal.returns-then-i-eq-GRID
unfolding choice_at
returns-then-i-eq-GRID c =
    let i = c.args.i in
    sym (ap (λ (b : Bool). cond b (two_resources watched watched_too) (two_resources (i / single_count) (i % single_count)))
    (eq-eqb i grid_count c.if-i-eq-GRID.true))

pub returns : goal.returns
unfolding choice_at
returns c =
    let i = c.args.i in
    sym (ap (λ (b : Bool). cond b (two_resources watched watched_too) (two_resources (i / single_count) (i % single_count)))
    (ne_eqb i grid_count c.if-i-eq-GRID.false))
