-- What is tracked: the sets of states of the instances, and what is kept of each policy. A step replaces it by a definition of this file,
-- given the places and the number of the instances in use, and says nothing of how they are laid out.
use Rattle.std.specs.Prelude.{ℕ, ◌+◌, ◌*◌, Bool, cond, List, get_or, set, replicate}
use Rattle.usage.specs.declared.Edge.{Edge}
use Rattle.usage.specs.Limits.{policies}
use Rattle.monitor_sets.specs.Instances.{instances, set_places}
pub use Rattle.monitor_pairs.specs.Blocks.{pair_sets}
use Rattle.monitor_pairs.specs.Blocks.{pairs_of, blocks_moved, blocks_created, blocks_retired, blocks_reset, with_gathered}
unfoldable pub use Rattle.monitor_sets.specs.Sets.{copied, retired_sets, moved_sets, reset_sets, gathered}
pub use Rattle.monitor_sets.specs.Sets.{start_set}
use Rattle.monitor_state.specs.declared.Tracked.{Tracked}

-- "The state starts with each instance in state 0". So each policy may be in state 0 alone; and where nothing is retired, the set of the
-- retired ones has what a resource that never occurred may be in.
unfoldable pub start_tracked : Tracked
start_tracked = record { sets = replicate set_places 1; pairs = replicate pair_sets 1; possible = replicate policies 1 }

-- the set of states of instance i of policy p
abbrev pub set_at : Tracked → ℕ → ℕ → ℕ
set_at t p i = get_or t.sets (p * instances + i) 0

-- "the set of states that any instance may be in", of policy p
abbrev pub possible_in : Tracked → ℕ → ℕ
possible_in t p = get_or t.possible p 0

-- instance i is what that of a resource that never occurred is
unfoldable pub copied_in : List Edge → Tracked → ℕ → Tracked
copied_in es t i = record { sets = copied t.sets i; pairs = blocks_created es i t.pairs; possible = t.possible }

-- the first n instances move on the event a(r), instance `own` as that of r; "Every event gathers it from the moved instances": whatever was
-- stored
unfoldable pub moved_in : List Edge → ℕ → ℕ → ℕ → ℕ → Tracked → Tracked
moved_in es a r own n t = record {
  sets = moved_sets es a r own n t.sets;
  pairs = blocks_moved es a r own n t.pairs;
  possible = with_gathered (pairs_of es) n (blocks_moved es a r own n t.pairs) (gathered n (moved_sets es a r own n t.sets));
}

-- instance `at` of the first n is retired; "is no event and, like an opening, is judged by the stored sets" (02, L8): what is kept of each
-- policy stays
unfoldable pub retired_in : List Edge → ℕ → ℕ → Tracked → Tracked
retired_in es at n t = record { sets = retired_sets at n t.sets; pairs = blocks_retired es at n t.pairs; possible = t.possible }

-- where b holds, the first n instances of p go back to state 0, and "The kept sets of L4 are reset too"
unfoldable pub reset_in : List Edge → Bool → ℕ → ℕ → Tracked → Tracked
reset_in es b n p t = record {
  sets = cond b (reset_sets n p t.sets) t.sets;
  pairs = cond b (blocks_reset es n p t.pairs) t.pairs;
  possible = cond b (set t.possible p start_set) t.possible;
}
