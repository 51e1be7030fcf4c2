use mathlib.Core.Path.{sym}
use Rattle.checker_tables.proofs.NumberLaws.{places-one, places-both}
use Rattle.checker_tables.proofs.marks_of.Goals as goal

pub marks_in-requires : goal.marks_in-requires
marks_in-requires c = sym (places-both c.args.w.resources c.if-w-eq-WATCHED_TOO.true)

pub marks_in-requires-else-w-eq-WATCHED_TOO : goal.marks_in-requires-else-w-eq-WATCHED_TOO
marks_in-requires-else-w-eq-WATCHED_TOO c = sym (places-one c.args.w.resources c.if-w-eq-WATCHED_TOO.false)
