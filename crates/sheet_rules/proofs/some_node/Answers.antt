use Rattle.sheet_rules.proofs.FaultLaws.{no-nodes, some-nodes}
use mathlib.Core.Path.{sym}
use Rattle.sheet_rules.proofs.some_node.Goals as goal

pub returns-then-table-lt-NODE_FIELDS : goal.returns-then-table-lt-NODE_FIELDS
returns-then-table-lt-NODE_FIELDS c = sym (no-nodes c.args.table.now c.if-table-lt-NODE_FIELDS.true)

pub returns : goal.returns
returns c = sym (some-nodes c.args.table.now c.if-table-lt-NODE_FIELDS.false)
