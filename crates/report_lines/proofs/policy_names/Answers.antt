use borrow.Author.Rules.{rules}
use Rattle.report_lines.proofs.policy_names.Goals as goal

pub returns-then-local : goal.returns-then-local
returns-then-local c = rw c.if-local.true (search rules)

pub returns : goal.returns
returns c = rw c.if-local.false (search rules)
