use Rattle.sheet_rules.proofs.RuleLaws.{place_none, place-some}
use mathlib.Core.Path.{sym}
use Rattle.sheet_rules.proofs.node_rules.placed.Goals as goal

pub returns-then-places-k : goal.returns-then-places-k
returns-then-places-k c = sym (place_none c.args.places.now c.args.k c.if-places-k.true)

pub returns : goal.returns
returns c = sym (place-some c.args.places.now c.args.k c.if-places-k.false)
