use native.Mathlib.Omega.{arith}
use mathlib.Core.Path.{refl, sym}
use Rattle.checker_account.specs.Tables.{one_resource}
use Rattle.checker_tables.proofs.NumberLaws.{places-one}
use Rattle.checker_tables.proofs.arrive.Goals as goal

pub search-requires : goal.search-requires
search-requires c = (omega arith, (sym (places-one (one_resource c.args.w.resources.first) (λ e. omega (arith, e))), refl))
