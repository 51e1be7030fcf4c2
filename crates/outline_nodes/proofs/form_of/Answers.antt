use native.Mathlib.Omega.{arith}
use mathlib.Core.Path.{sym}
use Rattle.outline_nodes.proofs.SaidLaws.{form-by, no-form}
use Rattle.outline_nodes.proofs.form_of.Goals as goal

pub returns-in-0 : goal.returns-in-0
returns-in-0 c = form-by c.args.n 0 c.in-0.is

pub returns-in-1 : goal.returns-in-1
returns-in-1 c = form-by c.args.n 1 c.in-1.is

pub returns-in-2 : goal.returns-in-2
returns-in-2 c = form-by c.args.n 2 c.in-2.is

pub returns-in-3 : goal.returns-in-3
returns-in-3 c = form-by c.args.n 3 c.in-3.is

pub returns-in-4 : goal.returns-in-4
returns-in-4 c = form-by c.args.n 4 c.in-4.is

pub returns-in-5 : goal.returns-in-5
returns-in-5 c = form-by c.args.n 5 c.in-5.is

pub returns-in-6 : goal.returns-in-6
returns-in-6 c = form-by c.args.n 6 c.in-6.is

pub returns-in-7 : goal.returns-in-7
returns-in-7 c = form-by c.args.n 7 c.in-7.is

pub returns-in-8 : goal.returns-in-8
returns-in-8 c = form-by c.args.n 8 c.in-8.is

pub returns-in_default : goal.returns-in_default
returns-in_default c = sym (no-form c.args.n (omega arith))
