-- The sets of the two pair policies of a sheet (02, L10: "At most two policies may be such"), the lower policy's block first. Which policies
-- they are is read off the edges; a block that no policy has stays as it is.
use Rattle.std.specs.Prelude.{ℕ, ◌*◌, cond, List, ◌++◌, eqb, ltb, take, drop, set}
use Rattle.usage.specs.declared.Edge.{Edge}
use Rattle.usage.specs.Limits.{policies}
use Rattle.monitor_pairs.specs.declared.which.Blocks.{Blocks}
use Rattle.monitor_pairs.specs.Pairs.{pair_places, event_pairs, gather_pairs, create_pairs, reset_pairs, retire_pairs}
use Rattle.monitor_pairs.specs.Tracked.{event_ways}
use Rattle.monitor_pairs.specs.Which.{pair_set, blocks_of}

-- how many sets there are in both
abbrev pub pair_sets : ℕ
pair_sets = 2 * pair_places

abbrev pub lower_block : List ℕ → List ℕ
lower_block pairs = take pair_places pairs

abbrev pub upper_block : List ℕ → List ℕ
upper_block pairs = drop pair_places pairs

-- the policies that the two blocks of a sheet belong to
abbrev pub pairs_of : List Edge → Blocks
pairs_of es = blocks_of (pair_set es)

-- the block of policy p, changed; one that belongs to none stays
unfoldable pub of_policy : ℕ → (ℕ → List ℕ → List ℕ) → List ℕ → List ℕ
of_policy p f sets = cond (ltb p policies) (f p sets) sets

-- each of the two blocks, changed as its policy's
unfoldable pub each_block : Blocks → (ℕ → List ℕ → List ℕ) → List ℕ → List ℕ
each_block b f pairs = of_policy b.first f (lower_block pairs) ++ of_policy b.second f (upper_block pairs)

-- an event on the resource at place `at` of the first n
abbrev pub blocks_moved : List Edge → ℕ → ℕ → ℕ → ℕ → List ℕ → List ℕ
blocks_moved es a r at n = each_block (pairs_of es) (λ p. event_pairs (event_ways es p a r) at n)

-- "A create copies the unused partner's sets on both sides"
abbrev pub blocks_created : List Edge → ℕ → List ℕ → List ℕ
blocks_created es n = each_block (pairs_of es) (λ p. create_pairs n)

abbrev pub blocks_retired : List Edge → ℕ → ℕ → List ℕ → List ℕ
blocks_retired es at n = each_block (pairs_of es) (λ p. retire_pairs at n)

-- "all its instances go back to state 0" (02, L7): those of policy s
abbrev pub blocks_reset : List Edge → ℕ → ℕ → List ℕ → List ℕ
blocks_reset es n s = each_block (pairs_of es) (λ p sets. cond (eqb p s) (reset_pairs n sets) sets)

-- "Stored sets are gathered over all pairs": what is gathered of the pair policies takes its place among what is gathered of all
unfoldable pub with_gathered : Blocks → ℕ → List ℕ → List ℕ → List ℕ
with_gathered b n pairs possible =
    set (set possible b.first (gather_pairs n (lower_block pairs))) b.second (gather_pairs n (upper_block pairs))
