use native.Mathlib.Omega.{arith}
use Rattle.checker_tables.proofs.MarkedLaws.{shifted}
use borrow.Author.Rules.{rules}
use Rattle.checker_tables.proofs.hits.mark_bit.Goals as goal
use Rattle.checker_tables.proofs.FitLaws.{small-rule}
use Rattle.outline_nodes.specs.Said.{said_by}

pub overflow_shl-result : goal.overflow_shl-result
overflow_shl-result c = let s = rw c.in-OnStatic.is at (small-rule (said_by c.args.s.form) c.args.s.form_small) in search (rules, s)

pub overflow_shl-result-in-OnName : goal.overflow_shl-result-in-OnName
overflow_shl-result-in-OnName c = let s = rw c.in-OnName.is at (small-rule (said_by c.args.s.form) c.args.s.form_small) in search (rules, s)

pub returns-in-OnStatic : goal.returns-in-OnStatic
returns-in-OnStatic c =
    let s = rw c.in-OnStatic.is at (small-rule (said_by c.args.s.form) c.args.s.form_small) in
    rw c.in-OnStatic.is (shifted c.in-OnStatic.action (omega (arith, s)))

pub returns-in-OnName : goal.returns-in-OnName
returns-in-OnName c =
    let s = rw c.in-OnName.is at (small-rule (said_by c.args.s.form) c.args.s.form_small) in
    rw c.in-OnName.is (shifted c.in-OnName.action (omega (arith, s)))
