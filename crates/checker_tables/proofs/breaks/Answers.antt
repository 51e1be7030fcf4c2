use native.Mathlib.Omega.{arith}
use mathlib.Core.Path.{refl, sym}
use Rattle.checker_tables.proofs.NumberLaws.{places-one, places-both}
use Rattle.checker_tables.proofs.breaks.Goals as goal

pub search-requires : goal.search-requires
search-requires c = (omega arith, (sym (places-both c.args.w.resources c.if-w-eq-WATCHED_TOO.true), refl))

pub search-requires-2 : goal.search-requires-2
search-requires-2 c = (omega arith, (sym (places-one c.args.w.resources c.if-w-eq-WATCHED_TOO.false), refl))
