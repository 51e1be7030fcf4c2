-- `policy_rows` meets its contract.
use mathlib.Core.Path.{sym}
use borrow.Author.Tests.{lt-ltb, le-ltb}
use Rattle.usage.specs.Limits.{policies}
use Rattle.automaton.specs.Code.{rows_in}
use Rattle.automaton.proofs.RowLaws.{rows-held}
use Rattle.automaton.proofs.policy_rows.Goals as goal

pub returns-then-policy-ge-POLICIES : goal.returns-then-policy-ge-POLICIES
unfolding rows_in
returns-then-policy-ge-POLICIES c = simp (le-ltb _ policies c.if-policy-ge-POLICIES.true)

pub returns : goal.returns
unfolding rows_in
returns c = simp (lt-ltb _ policies c.if-policy-ge-POLICIES.false) (sym (rows-held c.args.rows.now c.args.policy))
