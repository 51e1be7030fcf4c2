-- The sets of states of a policy about two resources (02, L10), one for each two places: that of the first place i and the second place j
-- is at i * instances + j. The first n places are in use. A place of y that is not in use has in each of the first n rows what that of the
-- unseen ones has, as one more number that never occurred; a row that is not in use keeps its contents.
use Rattle.std.specs.Prelude.{ℕ, ◌+◌, ◌-◌, ◌*◌, ◌/◌, ◌%◌, Bool, true, false, cond, List, eqb, ltb, leb, get_or}
use Rattle.std.specs.Int.Bits.{bit_or}
use Rattle.usage.specs.Tables.{from}
use Rattle.automaton.specs.Mask.{union}
use Rattle.automaton.specs.Move.{move_by}
use Rattle.monitor_sets.specs.Instances.{unseen, retirees, instances}
use Rattle.monitor_sets.specs.Sets.{start_set}
use Rattle.monitor_pairs.specs.declared.Ways.{Ways}

abbrev pub pair_places : ℕ
pair_places = instances * instances

abbrev pub pair_at : List ℕ → ℕ → ℕ → ℕ
pair_at sets i j = get_or sets (i * instances + j) 0

-- "There, on 2 means neither x nor y, and an event on x = y matches both kinds of edge": the rows of two places, by whether the first and
-- whether the second is the event's
abbrev pub way_of : Ways → Bool → Bool → List ℕ
way_of w true true = w.both
way_of w true false = w.first
way_of w false true = w.second
way_of w false false = w.neither

-- The first n rows move on an event on the resource at place `at`; the others keep their contents.
unfoldable pub event_pairs : Ways → ℕ → ℕ → List ℕ → List ℕ
event_pairs w at n sets =
    from (λ k. cond (ltb (k / instances) n) (move_by (way_of w (eqb (k / instances) at) (eqb (k % instances) at)) 0 (get_or sets k 0))
    (get_or sets k 0)) 0 pair_places

-- "Stored sets are gathered over all pairs": which states the sets of the first n rows have
unfoldable pub gather_pairs : ℕ → List ℕ → ℕ
gather_pairs n sets = union n (λ i. union instances (λ j. pair_at sets i j))

-- row `to` is what row `source` is
unfoldable pub row_copied : ℕ → ℕ → List ℕ → List ℕ
row_copied source to sets = from (λ k. cond (eqb (k / instances) to) (pair_at sets source (k % instances)) (get_or sets k 0)) 0 pair_places

-- "A create copies the unused partner's sets on both sides": row n becomes what that of the unseen ones is. Column n is so already, in the
-- rows in use; and in row n it is what the unseen ones' have with each other.
unfoldable pub create_pairs : ℕ → List ℕ → List ℕ
create_pairs n sets = row_copied unseen n sets

-- "all its instances go back to state 0" (02, L7)
unfoldable pub reset_pairs : ℕ → List ℕ → List ℕ
reset_pairs n sets = from (λ k. cond (ltb (k / instances) n) start_set (get_or sets k 0)) 0 pair_places

-- Once place `at` is retired: what stood there has joined what the retired ones had, the places behind it have moved up by one, and the
-- last is free, one more for a number that never occurred. f says what stood at each place.
abbrev pub taken : ℕ → ℕ → (ℕ → ℕ) → ℕ → ℕ
taken at last f i = cond (eqb i retirees) (bit_or (f retirees) (f at)) (f (cond (leb at i) (cond (eqb i last) unseen (i + 1)) i))

-- "Retired resources join one set per partner and side, unused partners included, and one set where both are retired": so it is on each
-- side, of the first n rows and of all columns.
unfoldable pub retire_pairs : ℕ → ℕ → List ℕ → List ℕ
retire_pairs at n sets =
    from (λ k. cond (ltb (k / instances) n)
    (taken at (n - 1) (λ i. taken at (instances - 1) (pair_at sets i) (k % instances)) (k / instances)) (get_or sets k 0)) 0 pair_places
