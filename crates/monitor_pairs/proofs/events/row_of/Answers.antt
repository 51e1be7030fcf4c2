use Prim.Native.Nat.{ℕ, ◌+◌, ◌-◌}
use mathlib.Core.Path.{◌≡◌, ap, ◌∙◌}
use mathlib.Core.List.{List}
use native.Mathlib.Omega.{arith}
use lib.ListN.{get_or, take, drop}
use lib.Seq.{get_or-take, get_or-drop}
use Rattle.usage.proofs.TableLaws.{is-from}
use Rattle.monitor_sets.specs.Instances.{instances}
use Rattle.monitor_pairs.specs.Code.{pair_row}
use Rattle.monitor_pairs.proofs.events.row_of.Goals as goal

pub returns : goal.returns
unfolding pair_row
returns c =
    let a = c.args in
    let l = a.sets.now in
    let copied = c.copy_from_slice.ensures in
    let e : a.k + instances - a.k ≡ instances = omega arith in
    is-from (λ j. get_or l (a.k + j) 0) 0 instances c.copy_from_slice.new.self copied.len
    (λ j b. ap (λ (u : List ℕ). get_or u j 0) (copied.after ∙ ap (λ (n : ℕ). take n (drop a.k l)) e)
    ∙ get_or-take instances (drop a.k l) j 0 b ∙ get_or-drop a.k l j 0)
