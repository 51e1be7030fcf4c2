use Prim.Native.Nat.{◌*◌}
use mathlib.Core.Path.{sym, ◌∙◌}
use native.Mathlib.Omega.{arith}
use lib.ListN.{get_or}
use Rattle.monitor_sets.specs.Instances.{instances}
use Rattle.monitor_pairs.specs.Pairs.{gather_pairs}
use Rattle.monitor_pairs.proofs.GatherLaws.{union-front, union-rows, stays-gathered}
use Rattle.monitor_pairs.proofs.gathering.after_event.Goals as goal

pub returns-then-all_stay : goal.returns-then-all_stay
unfolding gather_pairs
returns-then-all_stay c =
    let a = c.args in
    let l = a.sets.now in
    c.union_all.ensures ∙ union-front l (a.n * instances) (omega arith) ∙ union-rows a.n (λ k. get_or l k 0)
    ∙ stays-gathered a.ways (sym c.all_stay.ensures ∙ c.if-all_stay.true) a.at a.n l (omega arith) c.fits-sets
