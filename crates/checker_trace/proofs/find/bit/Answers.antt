use Rattle.checker_trace.proofs.BitLaws as laws
use mathlib.Core.Path.{sym}
use Rattle.checker_trace.proofs.find.bit.Goals as goal

pub returns-then-k-lt-MOST_NODES : goal.returns-then-k-lt-MOST_NODES
returns-then-k-lt-MOST_NODES c = laws.shl-bit c.args.k c.if-k-lt-MOST_NODES.true

pub returns-else-k-lt-MOST_NODES : goal.returns-else-k-lt-MOST_NODES
returns-else-k-lt-MOST_NODES c = sym (laws.no-bit c.args.k c.if-k-lt-MOST_NODES.false)
