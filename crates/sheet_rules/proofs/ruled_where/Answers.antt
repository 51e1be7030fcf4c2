use Rattle.std.proofs.lemmas.Result.{err_from_is_err_and}
use mathlib.Core.Path.{refl, ◌∙◌}
use Rattle.sheet_rules.proofs.FaultLaws.{by-parts}
use Rattle.sheet_rules.proofs.ruled_where.Goals as goal

pub returns-in_err-some_node : goal.returns-in_err-some_node
returns-in_err-some_node g c =
    let t = c.args.table.now in
    let p = err_from_is_err_and c.from_residual.result c.from_residual.ensures.1 in
    rw (p.1, p.2) (by-parts t g.test c.in_err-some_node.ensures refl)

pub returns-in_err-each : goal.returns-in_err-each
returns-in_err-each g c =
    let t = c.args.table.now in
    let p = err_from_is_err_and c.from_residual-in_err-each.result c.from_residual-in_err-each.ensures.1 in
    rw (p.1, p.2) (by-parts t g.test c.in_ok-some_node.ensures c.in_err-each.ensures)

pub returns : goal.returns
returns g c =
    let t = c.args.table.now in
    c.loops_and_names.ensures ∙ by-parts t g.test c.in_ok-some_node.ensures c.in_ok-each.ensures
