-- How the sets of states change. Place k is that of instance k % instances of policy k / instances.
use Rattle.std.specs.Prelude.{ℕ, ◌+◌, ◌*◌, ◌/◌, ◌%◌, ◌&&◌, cond, List, eqb, ltb, get_or}
use Rattle.std.specs.Int.Bits.{bit_or}
use Rattle.usage.specs.declared.Edge.{Edge}
use Rattle.usage.specs.Limits.{policies}
use Rattle.usage.specs.Tables.{from}
use Rattle.monitor_sets.specs.Instances.{unseen, retirees, instances, set_places}
use Rattle.monitor_sets.specs.Created.{behind}
use Rattle.automaton.specs.Mask.{union}
use Rattle.automaton.specs.Move.{move_mask}

-- "Before a resource is created, its instance has moved as one that never occurs."
unfoldable pub copied : List ℕ → ℕ → List ℕ
copied sets i = from (λ k. cond (eqb (k % instances) i) (get_or sets (k / instances * instances + unseen) 0) (get_or sets k 0)) 0 set_places

-- "The retired resource's instance may still break a policy, so its possible states join one set per policy" (02, L8): instance `at` of the
-- first n is retired, and its place is closed up; the other places keep their contents
unfoldable pub retired_sets : ℕ → ℕ → List ℕ → List ℕ
retired_sets at n sets =
    from (λ k. cond (eqb (k % instances) retirees) (bit_or (get_or sets k 0) (get_or sets (k / instances * instances + at) 0))
    (get_or sets (k / instances * instances + behind at n (k % instances)) 0)) 0 set_places

-- the instances in use move on the event a(r), instance `own` as that of r; the other places keep their contents
unfoldable pub moved_sets : List Edge → ℕ → ℕ → ℕ → ℕ → List ℕ → List ℕ
moved_sets es a r own n sets =
    from (λ k. cond (ltb (k % instances) n) (move_mask es (k / instances) a r (eqb (k % instances) own) (get_or sets k 0))
    (get_or sets k 0)) 0 set_places

-- the set of state 0 alone
abbrev pub start_set : ℕ
start_set = 1

-- "all its instances go back to state 0" (02, L7): the first n of policy p; the other places keep their contents
unfoldable pub reset_sets : ℕ → ℕ → List ℕ → List ℕ
reset_sets n p sets = from (λ k. cond (eqb (k / instances) p && ltb (k % instances) n) start_set (get_or sets k 0)) 0 set_places

-- "for each policy, the set of states that any instance may be in": the union of the sets of its first n instances
abbrev pub gathered_at : ℕ → List ℕ → ℕ → ℕ
gathered_at n sets p = union n (λ i. get_or sets (p * instances + i) 0)

-- "Every event gathers it from the moved instances"
unfoldable pub gathered : ℕ → List ℕ → List ℕ
gathered n sets = from (gathered_at n sets) 0 policies
